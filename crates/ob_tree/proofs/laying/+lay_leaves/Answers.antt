use Rattle.std.proofs.Common.{◌<◌, ℕ, subst}
use Rattle.ob_object.specs.Object.{parts}
use Rattle.ob_tree.proofs.LaidOut.{child_smaller, leaves_begin, leaves_next, leaves_end}
use Rattle.ob_tree.proofs.laying.+lay_leaves.Goals as goal

pub lay_leaves-requires : goal.lay_leaves-requires
lay_leaves-requires t c =
    let x = c.child-item.result in
    (subst (λ (n : ℕ). parts x < n) c.decreases (child_smaller c.args.object.now c.children-child-items.result.now c.loop-child.child-index x c.children-child-items.ensures.value c.loop-child-test.true c.child-item.is), tt)

pub loop-child-init : goal.loop-child-init
loop-child-init t c =
    leaves_begin c.args.into.now.items c.put_leaf.new.into.items c.args.object.now c.children-child-items.result.now c.children-child-items.ensures.value
    c.in_ok-put_leaf.ensures

pub loop-child-preserved : goal.loop-child-preserved
loop-child-preserved t c =
    leaves_next c.loop-child.into.items c.lay_leaves.new.into.items _ c.children-child-items.result.now c.loop-child.child-index c.child-item.result c.loop-child-test.true c.child-item.is c.in_ok-lay_leaves.ensures c.loop-child.invariant

pub returns : goal.returns
returns t c = leaves_end c.loop-child.into.items _ c.children-child-items.result.now c.loop-child.child-index c.loop-child-test.false c.loop-child.invariant
