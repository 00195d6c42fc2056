use Rattle.std.proofs.Common.{length}
use Rattle.ob_super.proofs.supervisor.+poll_over.Given as goal

abbrev pub decreases-poll_over : goal.decreases-poll_over
decreases-poll_over g l = length l.all.now
