use Rattle.std.proofs.Common.{None}
use Rattle.ob_io.proofs.TwinLemmas.{untold}
use Rattle.ob_system.proofs.standard.SystemClockClock.back.Goals as goal

pub returns-then-clock-gt0-clause-twin : goal.returns-then-clock-gt0-clause-twin
returns-then-clock-gt0-clause-twin g c = untold None None c.args.clock.faults

pub returns-else-clock-gt0-clause-twin : goal.returns-else-clock-gt0-clause-twin
returns-else-clock-gt0-clause-twin g c = untold None None c.args.clock.faults
