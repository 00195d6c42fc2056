use Rattle.std.proofs.Common.{sym, ap, subst}
use Rattle.ob_super.specs.InHand as in_hand
use Rattle.ob_super.proofs.SuperLemmas.{ends_none, ends_more, ends_one, is_down}
use Rattle.ob_super.proofs.supervisor.+end_over.Goals as goal

pub returns-in_default : goal.returns-in_default
returns-in_default g t c = ends_none g.W.L.Link.left g.W.L.Link.taken g.W.L.Link.held (in_hand.outside (g.W.Dialer.dials c.args.dialer.now) (g.W.Dialer.visits c.args.dialer.now)) c.args.all.now c.in_default.ensures.cases

pub returns : goal.returns
returns g t c =
    let before = in_hand.outside (g.W.Dialer.dials c.args.dialer.now) (g.W.Dialer.visits c.args.dialer.now) in
    let mid = in_hand.outside (g.W.Dialer.dials c.take_down.new.dialer) (g.W.Dialer.visits c.take_down.new.dialer) in
    let after = in_hand.outside (g.W.Dialer.dials c.end_over.new.dialer) (g.W.Dialer.visits c.end_over.new.dialer) in
    let first = c.in-Some.first.now in
    subst (λ x. in_hand.EndsAll g.W.L.Link.left g.W.L.Link.taken g.W.L.Link.held before after x) (sym c.in-Some.ensures.cases.0)
    (ends_more g.W.L.Link.left g.W.L.Link.taken g.W.L.Link.held before mid after first c.in-Some.rest.now
    (λ old stands. ends_one g.W.L.Link.left g.W.L.Link.taken g.W.L.Link.held g.W.L.Link.read_faults g.W.L.Link.write_faults (in_hand.upstream first.upstream) before mid old first.live stands
    (is_down g.W.L.Link.left g.W.L.Link.taken g.W.L.Link.held g.W.L.Link.read_faults g.W.L.Link.write_faults first.live before mid (λ e. ap (λ d. in_hand.outside (g.W.Dialer.dials d) (g.W.Dialer.visits d)) (c.take_down.ensures.none e)) c.take_down.ensures.back c.take_down.ensures.apart))
    c.end_over.ensures)
