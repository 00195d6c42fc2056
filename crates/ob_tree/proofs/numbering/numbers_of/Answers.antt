use Rattle.std.proofs.Common.{◌≡◌, ◌∙◌, Some, List, length, sym, ap, arith}
use Rattle.std.specs.Prelude.{slice_get}
use Rattle.std.specs.BTreeMap.{get_by_text}
use Rattle.ob_object.specs.declared.head.Head.{Head}
use Rattle.ob_object.specs.Object.{parts}
use Rattle.ob_tree.specs.Laid.{object_of, said, head_at}
use Rattle.ob_tree.proofs.StandsFor.{count_spots}
use Rattle.ob_tree.proofs.Leaves.{count_leaves}
use Rattle.ob_tree.proofs.Growing.{grows, read_spot}
use Rattle.ob_tree.proofs.Numbered.{begun, none_known, follows, follows_on, all_follow}
use Rattle.ob_tree.proofs.numbering.numbers_of.Goals as goal

pub spot_in-spot-requires : goal.spot_in-spot-requires
spot_in-spot-requires c =
    let o = object_of (said c.args.leaves.now) c.args.spots.now in
    omega (arith, c.requires.within, count_leaves o c.args.leaves.now c.requires.laid.heads_are, count_spots o c.args.spots.now c.requires.laid.spots_are)

pub loop-place-init : goal.loop-place-init
loop-place-init c = λ p is. begun p c.args.at (get_by_text c.new-numbers.result) (none_known c.new-numbers.result.entries c.new-numbers.ensures.empty)

pub head_in-head-requires : goal.head_in-head-requires
head_in-head-requires c =
    let o = object_of (said c.args.leaves.now) c.args.spots.now in
    let n : length c.args.leaves.now ≡ parts o = count_leaves o c.args.leaves.now c.requires.laid.heads_are in
    let s = follows o c.args.spots.now c.args.at c.loop-place.place c.loop-place.next c.spot_in-spot.result (get_by_text c.loop-place.numbers) c.requires.laid.spots_are c.requires.laid.well_formed (omega (arith, c.requires.within, n)) c.spot_in-spot.ensures c.loop-place-test.true c.loop-place.invariant in
    omega (arith, s.less, n)

pub spot_in-behind-requires : goal.spot_in-behind-requires
spot_in-behind-requires c =
    let o = object_of (said c.args.leaves.now) c.args.spots.now in
    let n : length c.args.leaves.now ≡ parts o = count_leaves o c.args.leaves.now c.requires.laid.heads_are in
    let s = follows o c.args.spots.now c.args.at c.loop-place.place c.loop-place.next c.spot_in-spot.result (get_by_text c.loop-place.numbers) c.requires.laid.spots_are c.requires.laid.well_formed (omega (arith, c.requires.within, n)) c.spot_in-spot.ensures c.loop-place-test.true c.loop-place.invariant in
    omega (arith, s.less, count_spots o c.args.spots.now c.requires.laid.spots_are)

pub loop-place-preserved : goal.loop-place-preserved
loop-place-preserved c =
    let o = object_of (said c.args.leaves.now) c.args.spots.now in
    let next = c.loop-place.next in
    let known = get_by_text c.loop-place.numbers in
    let n : length c.args.leaves.now ≡ parts o = count_leaves o c.args.leaves.now c.requires.laid.heads_are in
    let s = follows o c.args.spots.now c.args.at c.loop-place.place next c.spot_in-spot.result known c.requires.laid.spots_are c.requires.laid.well_formed (omega (arith, c.requires.within, n)) c.spot_in-spot.ensures c.loop-place-test.true c.loop-place.invariant in
    let read : head_at next o ≡ Some c.head_in-head.result.now = ap (λ (l : List Head). slice_get l next) (sym c.requires.laid.heads_are) ∙ c.head_in-head.ensures in
    let end = read_spot o s.x c.args.spots.now next c.spot_in-behind.result c.requires.laid.spots_are s.grows c.spot_in-behind.ensures in
    follows_on o c.args.at c.loop-place.place next c.spot_in-behind.result.end known (get_by_text c.put_number.new.numbers) c.head_in-head.result.now s read end.1 c.in_ok-put_number.ensures

pub returns : goal.returns
returns c =
    let o = object_of (said c.args.leaves.now) c.args.spots.now in
    let n : length c.args.leaves.now ≡ parts o = count_leaves o c.args.leaves.now c.requires.laid.heads_are in
    let f = grows o c.args.at (omega (arith, c.requires.within, n)) in
    let size = read_spot o f.0 c.args.spots.now c.args.at c.spot_in-spot.result c.requires.laid.spots_are f.1 c.spot_in-spot.ensures in
    all_follow o f.0 c.args.at c.loop-place.place c.loop-place.next (get_by_text c.loop-place.numbers) (c.loop-place.invariant f.0 f.1.is) (omega (arith, size.0, c.loop-place-test.false)) f.1.is
