use Rattle.std.proofs.Common.{drop}
use Rattle.ob_object.specs.Object.{parts}
use Rattle.ob_contracts.specs.Ties.{KeepsPlaces}
use Rattle.ob_contracts.proofs.Tied.{ChildrenLeft}
use Rattle.ob_contracts.proofs.ties.+put_object.Given as goal

abbrev pub invariant-loop-child : goal.invariant-loop-child
invariant-loop-child l = record {
  kept : KeepsPlaces l.fn.row.items l.row.items;
  left : ChildrenLeft l.library l.row.items l.object (drop l.child-index l.child-items);
}

abbrev pub decreases-put_object : goal.decreases-put_object
decreases-put_object l = parts l.object.now
