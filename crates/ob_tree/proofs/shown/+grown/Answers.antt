use Rattle.std.proofs.Common.{◌≡◌, ◌<◌, ◌-◌, ◌+◌, ◌∙◌, ℕ, Some, false, IsTrue, List, length, refl, sym, ap, subst, arith}
use Rattle.std.specs.Prelude.{slice_get}
use Rattle.ob_object.specs.declared.head.Head.{Head}
use Rattle.ob_object.specs.Fits.{fits_head}
use Rattle.ob_object.specs.Object.{Object, parts, children}
use Rattle.ob_object.specs.WellFormed.{is_taken, with_child}
use Rattle.ob_tree.specs.Laid.{object_of, said, head_at}
use Rattle.ob_tree.specs.Shown.{part_at}
use Rattle.ob_tree.proofs.Naming.{head_fits_at}
use Rattle.ob_tree.proofs.StandsFor.{count_spots}
use Rattle.ob_tree.proofs.Leaves.{count_leaves}
use Rattle.ob_tree.proofs.Growing.{grows, grows_for, read_spot, HasGrown, started, step_of, went_on, all_grown, free_in_copy}
use Rattle.ob_tree.proofs.shown.+grown.Goals as goal

pub spot_in-spot-requires : goal.spot_in-spot-requires
spot_in-spot-requires t c =
    let o = object_of (said c.args.leaves.now) c.args.spots.now in
    omega (arith, c.requires.within, count_leaves o c.args.leaves.now c.requires.laid.heads_are, count_spots o c.args.spots.now c.requires.laid.spots_are)

pub from_attributes-made-requires : goal.from_attributes-made-requires
from_attributes-made-requires t c =
    let o = object_of (said c.args.leaves.now) c.args.spots.now in
    let here : head_at c.args.at o ≡ Some c.head_in.result.now = ap (λ (l : List Head). slice_get l c.args.at) (sym c.requires.laid.heads_are) ∙ c.head_in.ensures in
    subst (λ (h : Head). IsTrue (fits_head h)) (sym c.in_ok-head.ensures) (head_fits_at o c.head_in.result.now c.args.at c.requires.laid.well_formed here)

pub loop-place-init : goal.loop-place-init
loop-place-init t c = λ p is.
    let o = object_of (said c.args.leaves.now) c.args.spots.now in
    let n : length c.args.leaves.now ≡ parts o = count_leaves o c.args.leaves.now c.requires.laid.heads_are in
    let g = grows_for o p c.args.at (omega (arith, c.requires.within, n)) is in
    let here : head_at c.args.at o ≡ Some c.head_in.result.now = ap (λ (l : List Head). slice_get l c.args.at) (sym c.requires.laid.heads_are) ∙ c.head_in.ensures in
    let there : head_at c.args.at o ≡ Some p.head = g.head_is in
    let same : c.head_in.result.now ≡ p.head = cc (here, there) in
    started p c.args.at c.in_ok-head.head c.from_attributes-made.result (c.args.at + 1) c.from_attributes-made.ensures (c.in_ok-head.ensures ∙ same) refl

pub grown-requires : goal.grown-requires
grown-requires t c =
    let o = object_of (said c.args.leaves.now) c.args.spots.now in
    let n : length c.args.leaves.now ≡ parts o = count_leaves o c.args.leaves.now c.requires.laid.heads_are in
    let s = step_of o c.args.spots.now c.args.at c.loop-place.place c.loop-place.next c.loop-place.made c.spot_in-spot.result c.requires.laid.spots_are c.requires.laid.well_formed (omega (arith, c.requires.within, n)) c.spot_in-spot.ensures c.loop-place-test.true c.loop-place.invariant in
    (subst (λ (k : ℕ). length c.args.leaves.now - c.loop-place.next < k) c.decreases (omega (arith, s.less, s.more, n)), (c.requires.laid, omega (arith, s.less, n)))

pub spot_in-behind-requires : goal.spot_in-behind-requires
spot_in-behind-requires t c =
    let o = object_of (said c.args.leaves.now) c.args.spots.now in
    let n : length c.args.leaves.now ≡ parts o = count_leaves o c.args.leaves.now c.requires.laid.heads_are in
    let s = step_of o c.args.spots.now c.args.at c.loop-place.place c.loop-place.next c.loop-place.made c.spot_in-spot.result c.requires.laid.spots_are c.requires.laid.well_formed (omega (arith, c.requires.within, n)) c.spot_in-spot.ensures c.loop-place-test.true c.loop-place.invariant in
    omega (arith, s.less, count_spots o c.args.spots.now c.requires.laid.spots_are)

pub put_last-requires : goal.put_last-requires
put_last-requires t c =
    let o = object_of (said c.args.leaves.now) c.args.spots.now in
    let n : length c.args.leaves.now ≡ parts o = count_leaves o c.args.leaves.now c.requires.laid.heads_are in
    let s = step_of o c.args.spots.now c.args.at c.loop-place.place c.loop-place.next c.loop-place.made c.spot_in-spot.result c.requires.laid.spots_are c.requires.laid.well_formed (omega (arith, c.requires.within, n)) c.spot_in-spot.ensures c.loop-place-test.true c.loop-place.invariant in
    let made : Some c.in_ok-child.child ≡ part_at c.loop-place.next o = c.in_ok-child.ensures in
    let there : part_at c.loop-place.next o ≡ Some s.x = s.next_is.is in
    let same : c.in_ok-child.child ≡ s.x = cc (made, there) in
    subst (λ (x : Object). is_taken x.head.name (children c.loop-place.made) ≡ false) (sym same) (free_in_copy s.p c.loop-place.made c.loop-place.place c.args.at c.loop-place.next s.x s.grown s.next_is.free)

pub loop-place-preserved : goal.loop-place-preserved
loop-place-preserved t c = λ q is.
    let o = object_of (said c.args.leaves.now) c.args.spots.now in
    let n : length c.args.leaves.now ≡ parts o = count_leaves o c.args.leaves.now c.requires.laid.heads_are in
    let s = step_of o c.args.spots.now c.args.at c.loop-place.place c.loop-place.next c.loop-place.made c.spot_in-spot.result c.requires.laid.spots_are c.requires.laid.well_formed (omega (arith, c.requires.within, n)) c.spot_in-spot.ensures c.loop-place-test.true c.loop-place.invariant in
    let made : Some c.in_ok-child.child ≡ part_at c.loop-place.next o = c.in_ok-child.ensures in
    let there : part_at c.loop-place.next o ≡ Some s.x = s.next_is.is in
    let same : c.in_ok-child.child ≡ s.x = cc (made, there) in
    let here : part_at c.args.at o ≡ Some s.p = s.grows.is in
    let one : s.p ≡ q = cc (here, is) in
    let end = read_spot o s.x c.args.spots.now c.loop-place.next c.spot_in-behind.result c.requires.laid.spots_are (grows_for o s.x c.loop-place.next s.less there) c.spot_in-behind.ensures in
    subst (λ (p : Object). HasGrown p c.args.at (c.loop-place.place + 1) c.put_last.new.made c.spot_in-behind.result.end) one
    (went_on o s.p c.args.at c.loop-place.place c.loop-place.next s.x c.loop-place.made c.put_last.new.made c.spot_in-behind.result.end s.grown s.next_is (c.in_ok-put_last.ensures ∙ ap (with_child c.loop-place.made) same) end.1)

pub returns : goal.returns
returns t c =
    let o = object_of (said c.args.leaves.now) c.args.spots.now in
    let n : length c.args.leaves.now ≡ parts o = count_leaves o c.args.leaves.now c.requires.laid.heads_are in
    let f = grows o c.args.at (omega (arith, c.requires.within, n)) in
    let size = read_spot o f.0 c.args.spots.now c.args.at c.spot_in-spot.result c.requires.laid.spots_are f.1 c.spot_in-spot.ensures in
    all_grown o f.0 c.args.at c.loop-place.place c.loop-place.made c.loop-place.next (c.loop-place.invariant f.0 f.1.is) (omega (arith, size.0, c.loop-place-test.false)) f.1.is
