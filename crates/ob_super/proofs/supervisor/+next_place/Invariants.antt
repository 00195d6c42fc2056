use Rattle.std.proofs.Common.{length}
use Rattle.ob_super.proofs.supervisor.+next_place.Given as goal

abbrev pub decreases-next_place : goal.decreases-next_place
decreases-next_place g l = length l.all.now
