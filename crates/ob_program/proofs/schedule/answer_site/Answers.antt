use Rattle.std.proofs.Common.{ℕ, List, Option, subst}
use Rattle.ob_io.specs.Links.{inlet}
use Rattle.ob_scheduling.specs.Scheduled.{ServesScheduled}
use Rattle.ob_site_laws.specs.SiteLaws.{acts}
use Rattle.ob_program.proofs.schedule.answer_site.Goals as goal

pub returns-clause-serves : goal.returns-clause-serves
returns-clause-serves g c =
    subst (λ (ns : Option (List ℕ)). ServesScheduled acts c.args.loaded.site c.args.schedules c.args.boot ns (inlet (g.L.Link.left c.args.timed.now.link.now) (g.L.Link.taken c.args.timed.now.link.now))
    (inlet (g.L.Link.left c.serve_scheduled.new.timed.link.now) (g.L.Link.taken c.serve_scheduled.new.timed.link.now)) (g.L.Link.held c.args.timed.now.link.now) (g.L.Link.held c.serve_scheduled.new.timed.link.now)
    (g.C.Clock.given c.args.timed.now.clock.now) (g.C.Clock.given c.serve_scheduled.new.timed.clock.now) c.serve_scheduled.result) c.as_ref.ensures.value c.serve_scheduled.ensures.serves
