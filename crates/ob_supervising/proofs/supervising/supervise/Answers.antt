use Rattle.ob_io.specs.Links.{inlet}
use Rattle.ob_super.specs.InHand as in_hand
use Rattle.ob_supervising.proofs.SupervisingLemmas.{whole_run, stopped_run}
use Rattle.ob_supervising.proofs.supervising.supervise.Goals as goal

pub returns-in-Ok-clause-supervises : goal.returns-in-Ok-clause-supervises
returns-in-Ok-clause-supervises g c =
    let before = in_hand.outside (g.W.Dialer.dials c.args.dialer.now) (g.W.Dialer.visits c.args.dialer.now) in
    let mid = in_hand.outside (g.W.Dialer.dials c.rounds.new.dialer) (g.W.Dialer.visits c.rounds.new.dialer) in
    let late = in_hand.outside (g.W.Dialer.dials c.serve_requests-end.new.dialer) (g.W.Dialer.visits c.serve_requests-end.new.dialer) in
    let after = in_hand.outside (g.W.Dialer.dials c.finish.new.dialer) (g.W.Dialer.visits c.finish.new.dialer) in
    whole_run g.W.L.Link.left g.W.L.Link.taken g.W.L.Link.held g.W.Dialer.dials g.W.Dialer.visits before mid late after
    c.args.upstreams c.rounds.new.self c.serve_requests-end.new.serving.upstreams c.args.rounds c.in-Ok.field-0
    (inlet (g.L.Link.left c.args.link.now) (g.L.Link.taken c.args.link.now)) (inlet (g.L.Link.left c.serve_requests-end.new.link) (g.L.Link.taken c.serve_requests-end.new.link))
    (g.L.Link.held c.args.link.now) (g.L.Link.held c.serve_requests-end.new.link) c.serve_requests-end.result
    c.requires.fresh c.in-Ok.ensures.same c.in-Ok.ensures.rounds c.serve_requests-end.ensures.answers c.finish.ensures

pub returns-in-Err-clause-supervises : goal.returns-in-Err-clause-supervises
returns-in-Err-clause-supervises g c =
    let before = in_hand.outside (g.W.Dialer.dials c.args.dialer.now) (g.W.Dialer.visits c.args.dialer.now) in
    let mid = in_hand.outside (g.W.Dialer.dials c.rounds.new.dialer) (g.W.Dialer.visits c.rounds.new.dialer) in
    let after = in_hand.outside (g.W.Dialer.dials c.finish-in-Err.new.dialer) (g.W.Dialer.visits c.finish-in-Err.new.dialer) in
    stopped_run g.W.L.Link.left g.W.L.Link.taken g.W.L.Link.held before mid after
    c.args.upstreams c.rounds.new.self c.args.rounds c.in-Err.field-0
    (inlet (g.L.Link.left c.args.link.now) (g.L.Link.taken c.args.link.now)) (g.L.Link.held c.args.link.now)
    c.requires.fresh c.in-Err.ensures.same c.in-Err.ensures.rounds c.finish-in-Err.ensures
