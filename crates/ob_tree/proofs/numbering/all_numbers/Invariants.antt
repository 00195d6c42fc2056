use Rattle.ob_tree.specs.Children.{AreNumbered}
use Rattle.ob_tree.specs.Laid.{object_of, said}
use Rattle.ob_tree.proofs.numbering.all_numbers.Given as goal

abbrev pub invariant-loop-at : goal.invariant-loop-at
invariant-loop-at l = AreNumbered (object_of (said l.leaves) l.spots) l.all
