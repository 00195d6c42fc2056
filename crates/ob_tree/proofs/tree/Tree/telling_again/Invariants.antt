use Rattle.std.specs.Ordering.{nat_cmp}
use Rattle.std.specs.BTreeMap.{get}
use Rattle.ob_tree.specs.Told.{AreToldBy}
use Rattle.ob_tree.proofs.tree.Tree.telling_again.Given as goal

abbrev pub invariant-loop-number : goal.invariant-loop-number
invariant-loop-number g l = record {
  comes : (goal.iterator-loop-number g).can_next l.number-iterator;
  ends : (goal.iterator-loop-number g).is_finite l.number-iterator;
  told : AreToldBy l.library l.self.root (get nat_cmp l.words);
}
