use Rattle.std.proofs.Common.{length}
use Rattle.ob_super.proofs.supervisor.+end_over.Given as goal

abbrev pub decreases-end_over : goal.decreases-end_over
decreases-end_over g l = length l.all.now
