use Rattle.std.proofs.Common.{◌≡◌}
use Rattle.ob_super.proofs.TreeLemmas.{tree_to}
use Rattle.ob_super.proofs.tree.tree.Given as goal

abbrev pub invariant-loop-followed : goal.invariant-loop-followed
invariant-loop-followed g l = l.root ≡ tree_to l.followed-index l.all
