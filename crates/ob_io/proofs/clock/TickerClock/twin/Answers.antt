use Rattle.std.proofs.Common.{refl}
use Rattle.ob_io.proofs.TickLemmas.{told_new}
use Rattle.ob_io.proofs.clock.TickerClock.twin.Goals as goal

pub returns-clause-fresh : goal.returns-clause-fresh
returns-clause-fresh c = record { given_none = told_new _ _; faults_none = refl }
