use Rattle.std.proofs.Common.{◌≡◌, ◌++◌, map, drop}
use Rattle.ob_object.specs.Object.{parts, in_row}
use Rattle.ob_tree.specs.Laid.{heads, heads_of, leaf}
use Rattle.ob_tree.proofs.laying.+lay_leaves.Given as goal

abbrev pub decreases-lay_leaves : goal.decreases-lay_leaves
decreases-lay_leaves l = parts l.object.now

abbrev pub invariant-loop-child : goal.invariant-loop-child
invariant-loop-child l = l.into.items ++ map leaf (heads (in_row (drop l.child-index l.child-items))) ≡ l.fn.into.items ++ map leaf (heads_of l.object)
