use Rattle.std.proofs.Common.{◌≡◌, ◌<◌, ℕ, List, Some, subst}
use Rattle.std.specs.Prelude.{slice_get}
use Rattle.ob_object.specs.Object.{Object, children, parts}
use Rattle.ob_values.proofs.Lists.{drop_all}
use Rattle.ob_contracts.proofs.At.{fewer_parts}
use Rattle.ob_contracts.proofs.Names.{at_place}
use Rattle.ob_contracts.proofs.Tied.{children_begun, children_next, children_none, keeps_twice}
use Rattle.ob_contracts.proofs.ties.+put_object.Goals as goal

pub put_object-requires : goal.put_object-requires
put_object-requires t c =
    let object = c.args.object.now in
    let at = c.loop-child.child-index in
    let x = c.child-item.result in
    let here : Some x ≡ slice_get (children object) at =
    subst (λ (l : List Object). Some x ≡ slice_get l at) c.children-child-items.ensures.value (at_place c.children-child-items.result.now at x c.loop-child-test.true c.child-item.is) in
    (subst (λ (n : ℕ). parts x < n) c.decreases (fewer_parts object at x here), tt)

pub loop-child-init : goal.loop-child-init
loop-child-init t c = record {
  kept = c.put_head.ensures.kept;
  left = children_begun c.args.library.now _ c.args.object.now _ _ c.head.ensures.value c.children-child-items.ensures.value c.in_ok-put_head.ensures.ok;
}

pub loop-child-preserved : goal.loop-child-preserved
loop-child-preserved t c = record {
  kept = keeps_twice _ _ _ c.loop-child.invariant.kept c.put_object.ensures.kept;
  left = children_next c.args.library.now _ _ c.args.object.now _ _ c.child-item.result c.loop-child-test.true c.child-item.is c.put_object.ensures.kept c.in_ok-put_object.ensures.ok c.loop-child.invariant.left;
}

pub returns-clause-ok : goal.returns-clause-ok
returns-clause-ok t c =
    children_none c.args.library.now _ c.args.object.now _ (drop_all c.children-child-items.result.now c.loop-child.child-index c.loop-child-test.false) c.loop-child.invariant.left
