use Rattle.std.proofs.Common.{◌≡◌, ◌<◌, ◌+◌, ℕ, false, Some, ◌∙◌, subst}
use Rattle.std.specs.Prelude.{slice_get}
use Rattle.ob_object.specs.Object.{parts, children}
use Rattle.ob_contracts.specs.Shown.{shown_as, shown_result}
use Rattle.ob_contracts.proofs.At.{fewer_parts}
use Rattle.ob_contracts.proofs.Bare.{shown_standing}
use Rattle.ob_contracts.proofs.UpTo.{bare_left, first_left, next_left, none_left, last_left}
use Rattle.ob_contracts.proofs.Views.{lent_children, view_at, view_end}
use Rattle.ob_contracts.proofs.counting.+left_after.Goals as goal

pub left_after-requires : goal.left_after-requires
left_after-requires t c =
    let all = shown_as false c.args.view.now in
    let below = shown_as false c.below-item.result in
    let i = c.loop-below.below-index in
    let is : Some below ≡ slice_get (children all) i = view_at false c.args.view.now c.below-item.result _ _ (lent_children c.args.view.now _ _ c.deref-below-items.ensures.value c.in_ok-views.ensures) c.loop-below-test.true c.below-item.is in
    (subst (λ (n : ℕ). parts below < n) c.decreases (fewer_parts all i below is), tt)

pub loop-below-init : goal.loop-below-init
loop-below-init t c = c.saturating_sub-left.ensures ∙ first_left c.args.most (shown_as false c.args.view.now)

pub loop-below-preserved : goal.loop-below-preserved
loop-below-preserved t c =
    let all = shown_as false c.args.view.now in
    let below = shown_as false c.below-item.result in
    let i = c.loop-below.below-index in
    let is : Some below ≡ slice_get (children all) i = view_at false c.args.view.now c.below-item.result _ _ (lent_children c.args.view.now _ _ c.deref-below-items.ensures.value c.in_ok-views.ensures) c.loop-below-test.true c.below-item.is in
    next_left c.args.most c.loop-below.left c.in_ok-left.left all below i is c.in_ok-left.ensures c.loop-below.invariant

pub returns-then-left-eq0 : goal.returns-then-left-eq0
returns-then-left-eq0 t c =
    let all = shown_as false c.args.view.now in
    let below = shown_as false c.below-item.result in
    let i = c.loop-below.below-index in
    let is : Some below ≡ slice_get (children all) i = view_at false c.args.view.now c.below-item.result _ _ (lent_children c.args.view.now _ _ c.deref-below-items.ensures.value c.in_ok-views.ensures) c.loop-below-test.true c.below-item.is in
    none_left c.args.most c.in_ok-left.left all (i + 1) c.if-left-eq0.true (next_left c.args.most c.loop-below.left c.in_ok-left.left all below i is c.in_ok-left.ensures c.loop-below.invariant)

pub returns : goal.returns
returns t c =
    let all = shown_as false c.args.view.now in
    last_left c.args.most c.loop-below.left all c.loop-below.below-index (view_end false c.args.view.now _ _ (lent_children c.args.view.now _ _ c.deref-below-items.ensures.value c.in_ok-views.ensures) c.loop-below-test.false) c.loop-below.invariant

pub returns-then-view : goal.returns-then-view
returns-then-view t c =
    bare_left c.args.most c.left_behind.result c.args.view.now.own.now (shown_result c.args.view.now) (shown_standing c.args.view.now c.if-view.true) c.left_behind.ensures
