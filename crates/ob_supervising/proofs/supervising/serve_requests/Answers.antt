use Rattle.std.proofs.Common.{rules}
use Rattle.ob_io.specs.Ticks.{ticks, told_ticks}
use Rattle.ob_io.specs.Links.{inlet}
use Rattle.ob_supervising.proofs.SupervisingLemmas.{answers_link}
use Rattle.ob_supervising.proofs.supervising.serve_requests.Goals as goal

pub returns-clause-answers : goal.returns-clause-answers
unfolding ticks
returns-clause-answers g c =
    let end = c.serve_by.new.timed.clock.now in
    let answers = answers_link g.W.L.Link.left g.W.L.Link.taken g.W.L.Link.held g.W.Dialer.dials g.W.Dialer.visits
    (c.args.serving.now, c.args.dialer.now) (c.serve_by.new.answerer, c.serve_by.new.outside)
    (inlet (g.L.Link.left c.args.link.now) (g.L.Link.taken c.args.link.now)) (inlet (g.L.Link.left c.serve_by.new.timed.link.now) (g.L.Link.taken c.serve_by.new.timed.link.now))
    (g.L.Link.held c.args.link.now) (g.L.Link.held c.serve_by.new.timed.link.now) (told_ticks end.at end.tick end.k) c.serve_by.result c.serve_by.ensures.serves in
    search (rules, answers)
