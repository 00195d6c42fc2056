use Rattle.ob_io.proofs.TickLemmas.{gives_each}
use Rattle.ob_io.proofs.clock.gives_its_pace.Goals as goal

pub returns-clause-each : goal.returns-clause-each
returns-clause-each g c = λ moments gains some. gives_each _ _ moments (g.met.C.Clock.paced c.args.clock.now) gains some
