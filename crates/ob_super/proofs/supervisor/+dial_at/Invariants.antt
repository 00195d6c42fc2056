use Rattle.std.proofs.Common.{length}
use Rattle.ob_super.proofs.supervisor.+dial_at.Given as goal

abbrev pub decreases-dial_at : goal.decreases-dial_at
decreases-dial_at g l = length l.all.now
