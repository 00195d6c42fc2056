use Rattle.std.proofs.Common.{◌≡◌, ◌+◌, ◌<◌, ℕ, List, Some, Vec, Global, refl, sym, ap, ◌∙◌, subst, arith}
use Rattle.std.specs.Prelude.{slice_get}
use Rattle.ob_object.specs.Object.{children, parts}
use Rattle.ob_contracts.proofs.At.{fewer_parts}
use Rattle.ob_tree.specs.declared.node.NodeId.{NodeId}
use Rattle.ob_step_laws.specs.Defaults.{with_library}
use Rattle.ob_site_settling.specs.Otherwise.{AreOtherwiseBelow}
use Rattle.ob_site_state.proofs.Stepping.{numbers_of}
use Rattle.ob_site_settling.proofs.Walked.{passed_over, all_same, is_put, item_at, was_within, is_within, child_are_shown, child_ends, counted, next_child, all_gone_through}
use Rattle.ob_site_settling.proofs.otherwise.+put_otherwise.Goals.{then-can_be_watched+else-same+in_ok-push, else-can_be_watched}
use Rattle.ob_site_settling.proofs.otherwise.+put_otherwise.Goals as goal

pub returns-then-same : goal.returns-then-same
returns-then-same t c = λ plan s old shown found.
    all_same plan s old c.args.number c.args.own.now c.args.before.now c.args.after.now c.same.result (numbers_of c.args.nodes.now.items) shown
    (sym c.can_be_watched.ensures ∙ c.if-can_be_watched.true) c.same.ensures c.if-same.true found

pub loop-place-init : goal.loop-place-init
loop-place-init t c = (
  refl,
  λ plan s old shown found.
      (let node : NodeId = record { number = c.args.number } in
      let nodes : List NodeId = c.args.nodes.now.items in
      let now : List NodeId = c.if-can_be_watched.nodes.items in
      elim c.if-can_be_watched.branch [
        | then-can_be_watched+else-same+in_ok-push w ↦
            (is_put plan s old node c.args.own.now c.args.before.now c.args.after.now w.same.result nodes now shown (sym c.can_be_watched.ensures ∙ w.if-can_be_watched.true) w.same.ensures w.if-same.false
            (ap (λ (v : Vec NodeId Global). v.items) w.nodes-is ∙ w.in_ok-push.ensures.items) found)
        | else-can_be_watched w ↦
            (subst (λ (l : List NodeId). AreOtherwiseBelow plan (with_library old s) s.library (c.args.number + 1) (numbers_of l)) (sym (ap (λ (v : Vec NodeId Global). v.items) w.nodes-is))
            (passed_over plan s old c.args.number c.args.own.now c.args.before.now c.args.after.now (numbers_of nodes) shown (sym c.can_be_watched.ensures ∙ w.if-can_be_watched.false) found))
      ]),
)

pub bounds-children-place : goal.bounds-children-place
bounds-children-place t c =
    let w = c.requires.shown in
    let k = c.loop-place.place in
    let child = item_at c.children-child-items.result.now (children c.args.own.now) k c.child-item.result c.children-child-items.ensures.value c.loop-place-test.true c.child-item.is in
    was_within w.0 w.1 w.2 c.args.number k c.loop-place.next c.args.own.now c.args.before.now c.args.after.now c.child-item.result c.children.result.now w.3 child c.loop-place.invariant.0 c.children.ensures.value

pub bounds-children-place-in-loop-place : goal.bounds-children-place-in-loop-place
bounds-children-place-in-loop-place t c =
    let w = c.requires.shown in
    let k = c.loop-place.place in
    let child = item_at c.children-child-items.result.now (children c.args.own.now) k c.child-item.result c.children-child-items.ensures.value c.loop-place-test.true c.child-item.is in
    is_within w.0 w.1 w.2 c.args.number k c.loop-place.next c.args.own.now c.args.before.now c.args.after.now c.child-item.result c.children-in-loop-place.result.now w.3 child c.loop-place.invariant.0
    c.children-in-loop-place.ensures.value

pub put_otherwise-requires : goal.put_otherwise-requires
put_otherwise-requires t c =
    let w = c.requires.shown in
    let k = c.loop-place.place in
    let own = c.args.own.now in
    let x = c.child-item.result in
    let child : slice_get (children own) k ≡ Some x = item_at c.children-child-items.result.now (children own) k x c.children-child-items.ensures.value c.loop-place-test.true c.child-item.is in
    let ends : c.loop-place.next + parts x < 18446744073709551616 =
    omega (arith, c.requires.few, child_ends w.0 w.1 w.2 c.args.number k c.loop-place.next own c.args.before.now c.args.after.now x w.3 child c.loop-place.invariant.0) in (
      subst (λ (n : ℕ). parts x < n) c.decreases (fewer_parts own k x (sym child)),
      (
        ends,
        (
          w.0,
          w.1,
          w.2,
          child_are_shown w.0 w.1 w.2 c.args.number k c.loop-place.next own c.args.before.now c.args.after.now x c.index-children-place.result c.index-children-place-in-loop-place.result
              c.children.result.now c.children-in-loop-place.result.now w.3 child c.loop-place.invariant.0 c.children.ensures.value c.children-in-loop-place.ensures.value c.index-children-place.is
              c.index-children-place-in-loop-place.is,
        ),
      ),
    )

pub overflow_add-next-in-loop-place : goal.overflow_add-next-in-loop-place
overflow_add-next-in-loop-place t c =
    let w = c.requires.shown in
    let k = c.loop-place.place in
    let own = c.args.own.now in
    let x = c.child-item.result in
    let child : slice_get (children own) k ≡ Some x = item_at c.children-child-items.result.now (children own) k x c.children-child-items.ensures.value c.loop-place-test.true c.child-item.is in
    let ends : c.loop-place.next + parts x < 18446744073709551616 =
    omega (arith, c.requires.few, child_ends w.0 w.1 w.2 c.args.number k c.loop-place.next own c.args.before.now c.args.after.now x w.3 child c.loop-place.invariant.0) in
    let size : c.parts-next.result ≡ parts x = counted (parts x) c.parts-next.result c.parts-next.ensures (omega (arith, ends)) in
    omega (arith, ends, size)

pub loop-place-preserved : goal.loop-place-preserved
loop-place-preserved t c =
    let v = c.requires.shown in
    let k = c.loop-place.place in
    let own = c.args.own.now in
    let x = c.child-item.result in
    let child : slice_get (children own) k ≡ Some x = item_at c.children-child-items.result.now (children own) k x c.children-child-items.ensures.value c.loop-place-test.true c.child-item.is in
    let ends : c.loop-place.next + parts x < 18446744073709551616 =
    omega (arith, c.requires.few, child_ends v.0 v.1 v.2 c.args.number k c.loop-place.next own c.args.before.now c.args.after.now x v.3 child c.loop-place.invariant.0) in
    let size : c.parts-next.result ≡ parts x = counted (parts x) c.parts-next.result c.parts-next.ensures (omega (arith, ends)) in (
      ap (λ (m : ℕ). c.loop-place.next + m) size ∙ next_child c.args.number k c.loop-place.next own x child c.loop-place.invariant.0,
      λ plan s old shown found.
          subst (λ (m : ℕ). AreOtherwiseBelow plan (with_library old s) s.library (c.loop-place.next + m) (numbers_of c.put_otherwise.new.nodes.items)) (sym size)
          (c.in_ok-put_otherwise.ensures plan s old
          (child_are_shown plan s old c.args.number k c.loop-place.next own c.args.before.now c.args.after.now x c.index-children-place.result c.index-children-place-in-loop-place.result c.children.result.now
          c.children-in-loop-place.result.now shown child c.loop-place.invariant.0 c.children.ensures.value c.children-in-loop-place.ensures.value c.index-children-place.is
          c.index-children-place-in-loop-place.is)
          (c.loop-place.invariant.1 plan s old shown found)),
    )

pub returns : goal.returns
returns t c = λ plan s old shown found.
    subst (λ (m : ℕ). AreOtherwiseBelow plan (with_library old s) s.library m (numbers_of c.loop-place.nodes.items))
    (all_gone_through c.args.number c.loop-place.place c.loop-place.next c.args.own.now c.children-child-items.result.now c.children-child-items.ensures.value c.loop-place-test.false c.loop-place.invariant.0)
    (c.loop-place.invariant.1 plan s old shown found)
