use Rattle.std.proofs.Common.{◌≡◌, ◌-◌, ◌+◌, false}
use Rattle.ob_object.specs.Object.{parts}
use Rattle.ob_contracts.specs.Shown.{shown_as}
use Rattle.ob_contracts.proofs.UpTo.{up_to}
use Rattle.ob_contracts.proofs.counting.+left_after.Given as goal

abbrev pub decreases-left_after : goal.decreases-left_after
decreases-left_after l = parts (shown_as false l.view.now)

abbrev pub invariant-loop-below : goal.invariant-loop-below
invariant-loop-below l = l.left ≡ l.most - (1 + up_to (shown_as false l.view) l.below-index)
