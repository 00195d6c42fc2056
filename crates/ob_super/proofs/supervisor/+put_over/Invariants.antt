use Rattle.std.proofs.Common.{length}
use Rattle.ob_super.proofs.supervisor.+put_over.Given as goal

abbrev pub decreases-put_over : goal.decreases-put_over
decreases-put_over g l = length l.all.now
