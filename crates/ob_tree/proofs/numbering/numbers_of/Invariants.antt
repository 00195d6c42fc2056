use Rattle.std.proofs.Common.{◌≡◌, Some}
use Rattle.std.specs.BTreeMap.{get_by_text}
use Rattle.ob_object.specs.Object.{Object}
use Rattle.ob_tree.specs.Laid.{object_of, said}
use Rattle.ob_tree.specs.Shown.{part_at}
use Rattle.ob_tree.proofs.Numbered.{IsNumbered}
use Rattle.ob_tree.proofs.numbering.numbers_of.Given as goal

abbrev pub invariant-loop-place : goal.invariant-loop-place
invariant-loop-place l = (p : Object) → part_at l.at (object_of (said l.leaves) l.spots) ≡ Some p → IsNumbered p l.at l.place l.next (get_by_text l.numbers)
