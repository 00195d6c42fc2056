use Rattle.std.proofs.Common.{◌≡◌, Some}
use Rattle.ob_object.specs.Object.{Object}
use Rattle.ob_tree.specs.Laid.{object_of, said}
use Rattle.ob_tree.specs.Shown.{part_at}
use Rattle.ob_tree.proofs.ChildNodes.{Gathers}
use Rattle.ob_tree.proofs.children.child_nodes.Given as goal

abbrev pub invariant-loop-place : goal.invariant-loop-place
invariant-loop-place l = (p : Object) → part_at l.at (object_of (said l.leaves) l.spots) ≡ Some p → Gathers (object_of (said l.leaves) l.spots) p l.at l.place l.made.items l.next
