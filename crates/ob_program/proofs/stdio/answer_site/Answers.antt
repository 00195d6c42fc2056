use Rattle.std.proofs.Common.{ℕ, List, Option, subst}
use Rattle.ob_io.specs.Links.{inlet}
use Rattle.ob_site_laws.specs.Seen.{KeepsWatches}
use Rattle.ob_server.specs.Alone.{ServesAlone}
use Rattle.ob_site_laws.specs.SiteLaws.{acts}
use Rattle.ob_program.proofs.stdio.answer_site.Goals as goal

pub returns-clause-serves : goal.returns-clause-serves
returns-clause-serves g c =
    subst (λ (ns : Option (List ℕ)). (alone : ServesAlone acts c.args.loaded.site ns (inlet (g.L.Link.left c.args.timed.now.link.now) (g.L.Link.taken c.args.timed.now.link.now))
    (inlet (g.L.Link.left c.serve_alone.new.timed.link.now) (g.L.Link.taken c.serve_alone.new.timed.link.now)) (g.L.Link.held c.args.timed.now.link.now) (g.L.Link.held c.serve_alone.new.timed.link.now)
    (g.C.Clock.given c.args.timed.now.clock.now) (g.C.Clock.given c.serve_alone.new.timed.clock.now) c.serve_alone.result) × KeepsWatches c.args.loaded.site alone.calls)
    c.as_ref.ensures.value c.serve_alone.ensures.serves
