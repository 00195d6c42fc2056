use Rattle.std.proofs.Common.{None}
use Rattle.ob_io.specs.Ticks.{told_ticks}
use Rattle.ob_io.proofs.TwinLemmas.{untold}
use Rattle.ob_io.proofs.clock.TickerClock.back.Goals as goal

pub returns-clause-twin : goal.returns-clause-twin
returns-clause-twin c = untold (told_ticks c.args.clock.at c.args.clock.tick c.args.clock.k) None 0
