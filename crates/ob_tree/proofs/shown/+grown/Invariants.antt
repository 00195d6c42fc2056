use Rattle.std.proofs.Common.{◌≡◌, ◌-◌, length, Some}
use Rattle.ob_object.specs.Object.{Object}
use Rattle.ob_tree.specs.Laid.{object_of, said}
use Rattle.ob_tree.specs.Shown.{part_at}
use Rattle.ob_tree.proofs.Growing.{HasGrown}
use Rattle.ob_tree.proofs.shown.+grown.Given as goal

abbrev pub decreases-grown : goal.decreases-grown
decreases-grown l = length l.leaves.now - l.at

abbrev pub invariant-loop-place : goal.invariant-loop-place
invariant-loop-place l = (p : Object) → part_at l.at (object_of (said l.leaves) l.spots) ≡ Some p → HasGrown p l.at l.place l.made l.next
