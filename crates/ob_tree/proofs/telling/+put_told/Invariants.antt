use Rattle.std.proofs.Common.{◌≡◌, ◌-◌, length}
use Rattle.std.specs.Ordering.{nat_cmp}
use Rattle.std.specs.BTreeMap.{get}
use Rattle.ob_tree.specs.Laid.{object_of, said}
use Rattle.ob_tree.specs.Told.{AreToldBy}
use Rattle.ob_tree.proofs.Below.{IsChild}
use Rattle.ob_tree.proofs.telling.+put_told.Given as goal

abbrev pub decreases-put_told : goal.decreases-put_told
decreases-put_told l = length l.arena.leaves.now - l.at

abbrev pub invariant-loop-place : goal.invariant-loop-place
invariant-loop-place l =
    let o = object_of (said l.arena.leaves.now) l.arena.spots.now in
    record {
      number : IsChild o l.at l.place l.next;
      told : AreToldBy l.fn.standing.library.now o (get nat_cmp l.fn.words) → AreToldBy l.fn.standing.library.now o (get nat_cmp l.words);
    }
