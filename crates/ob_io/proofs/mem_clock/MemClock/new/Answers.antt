use Rattle.ob_io.proofs.TickLemmas.{told_none}
use Rattle.ob_io.proofs.mem_clock.MemClock.new.Goals as goal

pub returns-clause-given : goal.returns-clause-given
returns-clause-given c = told_none c.args.at c.args.tick
