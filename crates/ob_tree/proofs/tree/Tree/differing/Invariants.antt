use Rattle.std.proofs.Common.{◌≤◌, map}
use Rattle.ob_tree.specs.Differing.{Differs}
use Rattle.ob_tree.proofs.Collecting.{Collected}
use Rattle.ob_tree.proofs.tree.Tree.differing.Given as goal

abbrev pub invariant-loop-number : goal.invariant-loop-number
invariant-loop-number g l = (l.number ≤ l.number-end) × Collected (Differs l.fn.old l.fn.new l.fn.self.root) l.number (map (λ id. id.number) l.ids.items)
