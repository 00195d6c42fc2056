use Rattle.std.proofs.Common.{◌≡◌, ◌<◌, ◌≤◌, ℕ, length, get_or, List, subst}
use Rattle.ob_object.specs.Object.{Object, parts}
use Rattle.ob_object.specs.WellFormed.{NamesDiffer}
use Rattle.ob_contracts.proofs.At.{fewer_parts}
use Rattle.ob_contracts.proofs.Bare.{child_here}
use Rattle.ob_super.proofs.TreeLemmas.{copied_free, copied_more, copied_all}
use Rattle.ob_super.proofs.tree.+copy_bare.Goals as goal

pub copy_bare-requires : goal.copy_bare-requires
copy_bare-requires t c =
    let o = c.args.object.now in
    let x = c.child-item.result in
    let here = child_here o x _ c.loop-child.child-index c.children-child-items.ensures.value c.loop-child-test.true c.child-item.is in
    (subst (λ (n : ℕ). parts x < n) c.decreases (fewer_parts o c.loop-child.child-index x here), tt)

pub push_last-requires : goal.push_last-requires
push_last-requires t c =
    let o = c.args.object.now in
    let x = c.child-item.result in
    let i = c.loop-child.child-index in
    let all = c.children-child-items.ensures.value in
    copied_free c.loop-child.made o _ i x c.in_ok-copy.copy c.loop-child.invariant (subst NamesDiffer all c.children-child-items.ensures.names_differ)
    (subst (λ (l : List Object). i < length l) all c.loop-child-test.true) (subst (λ (l : List Object). x ≡ get_or l i x) all c.child-item.is) c.in_ok-copy.ensures

pub loop-child-preserved : goal.loop-child-preserved
loop-child-preserved t c =
    let o = c.args.object.now in
    let x = c.child-item.result in
    let i = c.loop-child.child-index in
    let all = c.children-child-items.ensures.value in
    copied_more c.loop-child.made _ o _ i x c.in_ok-copy.copy c.loop-child.invariant
    (subst (λ (l : List Object). i < length l) all c.loop-child-test.true) (subst (λ (l : List Object). x ≡ get_or l i x) all c.child-item.is) c.in_ok-copy.ensures c.in_ok-push_last.ensures

pub returns : goal.returns
returns t c =
    copied_all c.loop-child.made c.args.object.now c.loop-child.child-index c.loop-child.invariant
    (subst (λ (l : List Object). length l ≤ c.loop-child.child-index) c.children-child-items.ensures.value c.loop-child-test.false)
