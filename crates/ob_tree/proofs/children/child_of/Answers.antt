use Rattle.std.proofs.Common.{◌≡◌, ◌+◌, ◌∙◌, Some, List, length, sym, ap, subst, arith}
use Rattle.std.specs.Prelude.{slice_get}
use Rattle.ob_object.specs.declared.head.Head.{Head}
use Rattle.ob_object.specs.Object.{Object, parts}
use Rattle.ob_object.specs.WellFormed.{has_name}
use Rattle.ob_tree.specs.Laid.{object_of, said, head_at}
use Rattle.ob_tree.specs.Shown.{part_at}
use Rattle.ob_tree.proofs.StandsFor.{count_spots}
use Rattle.ob_tree.proofs.Leaves.{count_leaves}
use Rattle.ob_tree.proofs.Growing.{grows, read_spot}
use Rattle.ob_tree.proofs.Named.{Seeks, seeking, sought_at, goes_on, is_here, is_nowhere}
use Rattle.ob_tree.proofs.children.child_of.Goals as goal

pub spot_in-spot-requires : goal.spot_in-spot-requires
spot_in-spot-requires c =
    let o = object_of (said c.args.leaves.now) c.args.spots.now in
    omega (arith, c.requires.within, count_leaves o c.args.leaves.now c.requires.laid.heads_are, count_spots o c.args.spots.now c.requires.laid.spots_are)

pub loop-place-init : goal.loop-place-init
loop-place-init c = λ p is. seeking p c.args.at c.args.name.now

pub head_in-head-requires : goal.head_in-head-requires
head_in-head-requires c =
    let o = object_of (said c.args.leaves.now) c.args.spots.now in
    let n : length c.args.leaves.now ≡ parts o = count_leaves o c.args.leaves.now c.requires.laid.heads_are in
    let s = sought_at o c.args.spots.now c.args.at c.loop-place.place c.args.name.now c.loop-place.next c.spot_in-spot.result c.requires.laid.spots_are c.requires.laid.well_formed (omega (arith, c.requires.within, n)) c.spot_in-spot.ensures c.loop-place-test.true c.loop-place.invariant in
    omega (arith, s.2.less, n)

pub spot_in-behind-requires : goal.spot_in-behind-requires
spot_in-behind-requires c =
    let o = object_of (said c.args.leaves.now) c.args.spots.now in
    let n : length c.args.leaves.now ≡ parts o = count_leaves o c.args.leaves.now c.requires.laid.heads_are in
    let s = sought_at o c.args.spots.now c.args.at c.loop-place.place c.args.name.now c.loop-place.next c.spot_in-spot.result c.requires.laid.spots_are c.requires.laid.well_formed (omega (arith, c.requires.within, n)) c.spot_in-spot.ensures c.loop-place-test.true c.loop-place.invariant in
    omega (arith, s.2.less, count_spots o c.args.spots.now c.requires.laid.spots_are)

pub returns-then-is_named : goal.returns-then-is_named
returns-then-is_named c =
    let o = object_of (said c.args.leaves.now) c.args.spots.now in
    let next = c.loop-place.next in
    let n : length c.args.leaves.now ≡ parts o = count_leaves o c.args.leaves.now c.requires.laid.heads_are in
    let s = sought_at o c.args.spots.now c.args.at c.loop-place.place c.args.name.now next c.spot_in-spot.result c.requires.laid.spots_are c.requires.laid.well_formed (omega (arith, c.requires.within, n)) c.spot_in-spot.ensures c.loop-place-test.true c.loop-place.invariant in
    let read : head_at next o ≡ Some c.head_in-head.result.now = ap (λ (l : List Head). slice_get l next) (sym c.requires.laid.heads_are) ∙ c.head_in-head.ensures in
    let there : head_at next o ≡ Some s.2.x.head = s.2.grows.head_is in
    let same : c.head_in-head.result.now ≡ s.2.x.head = cc (read, there) in
    is_here o s.0 c.args.at c.loop-place.place c.args.name.now next s.2 (ap (λ (h : Head). has_name c.args.name.now h.name) (sym same) ∙ sym c.is_named.ensures ∙ c.if-is_named.true) s.1

pub loop-place-preserved : goal.loop-place-preserved
loop-place-preserved c = λ q is.
    let o = object_of (said c.args.leaves.now) c.args.spots.now in
    let next = c.loop-place.next in
    let n : length c.args.leaves.now ≡ parts o = count_leaves o c.args.leaves.now c.requires.laid.heads_are in
    let s = sought_at o c.args.spots.now c.args.at c.loop-place.place c.args.name.now next c.spot_in-spot.result c.requires.laid.spots_are c.requires.laid.well_formed (omega (arith, c.requires.within, n)) c.spot_in-spot.ensures c.loop-place-test.true c.loop-place.invariant in
    let read : head_at next o ≡ Some c.head_in-head.result.now = ap (λ (l : List Head). slice_get l next) (sym c.requires.laid.heads_are) ∙ c.head_in-head.ensures in
    let there : head_at next o ≡ Some s.2.x.head = s.2.grows.head_is in
    let same : c.head_in-head.result.now ≡ s.2.x.head = cc (read, there) in
    let end = read_spot o s.2.x c.args.spots.now next c.spot_in-behind.result c.requires.laid.spots_are s.2.grows c.spot_in-behind.ensures in
    let here : part_at c.args.at o ≡ Some s.0 = s.1 in
    let one : s.0 ≡ q = cc (here, is) in
    subst (λ (p : Object). Seeks p c.args.at (c.loop-place.place + 1) c.args.name.now c.spot_in-behind.result.end) one
    (goes_on o s.0 c.args.at c.loop-place.place c.args.name.now next c.spot_in-behind.result.end s.2 (ap (λ (h : Head). has_name c.args.name.now h.name) (sym same) ∙ sym c.is_named.ensures ∙ c.if-is_named.false) end.1)

pub returns : goal.returns
returns c =
    let o = object_of (said c.args.leaves.now) c.args.spots.now in
    let n : length c.args.leaves.now ≡ parts o = count_leaves o c.args.leaves.now c.requires.laid.heads_are in
    let f = grows o c.args.at (omega (arith, c.requires.within, n)) in
    let size = read_spot o f.0 c.args.spots.now c.args.at c.spot_in-spot.result c.requires.laid.spots_are f.1 c.spot_in-spot.ensures in
    is_nowhere o f.0 c.args.at c.loop-place.place c.args.name.now c.loop-place.next (c.loop-place.invariant f.0 f.1.is) (omega (arith, size.0, c.loop-place-test.false)) f.1.is
