use Rattle.std.proofs.Common.{◌≡◌, map}
use Rattle.ob_super.specs.InHand.{down}
use Rattle.ob_super.proofs.supervisor.all_down.Given as goal

abbrev pub invariant-loop-upstream : goal.invariant-loop-upstream
invariant-loop-upstream g l = l.all.items ≡ map (down l.wait_ms) l.yielded
