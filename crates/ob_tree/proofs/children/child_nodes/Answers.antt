use Rattle.std.proofs.Common.{◌≡◌, ◌+◌, ◌≤◌, ◌∙◌, Some, List, length, sym, ap, subst, arith}
use Rattle.std.specs.Prelude.{slice_get, is_some}
use Rattle.ob_object.specs.declared.head.Head.{Head}
use Rattle.ob_object.specs.Object.{Object, parts}
use Rattle.ob_object.specs.Paths.{node_path}
use Rattle.ob_tree.specs.Laid.{object_of, said, head_at, width}
use Rattle.ob_tree.specs.Shown.{part_at}
use Rattle.ob_tree.proofs.StandsFor.{count_spots}
use Rattle.ob_tree.proofs.Leaves.{count_leaves}
use Rattle.ob_tree.proofs.Growing.{grows, read_spot}
use Rattle.ob_tree.proofs.ChildNodes.{Gathers, gathering, gathered, gathers_on, all_gathered}
use Rattle.ob_tree.proofs.children.child_nodes.Goals as goal

pub spot_in-spot-requires : goal.spot_in-spot-requires
spot_in-spot-requires c =
    let o = object_of (said c.args.leaves.now) c.args.spots.now in
    omega (arith, c.requires.within, count_leaves o c.args.leaves.now c.requires.laid.heads_are, count_spots o c.args.spots.now c.requires.laid.spots_are)

pub loop-place-init : goal.loop-place-init
loop-place-init c = λ p is. gathering (object_of (said c.args.leaves.now) c.args.spots.now) p c.args.at c.new-made.result.items c.new-made.ensures.items

pub head_in-head-requires : goal.head_in-head-requires
head_in-head-requires c =
    let o = object_of (said c.args.leaves.now) c.args.spots.now in
    let n : length c.args.leaves.now ≡ parts o = count_leaves o c.args.leaves.now c.requires.laid.heads_are in
    let s = gathered o c.args.spots.now c.args.at c.loop-place.place c.loop-place.made.items c.loop-place.next c.spot_in-spot.result c.requires.laid.spots_are c.requires.laid.well_formed (omega (arith, c.requires.within, n)) c.spot_in-spot.ensures c.loop-place-test.true c.loop-place.invariant in
    omega (arith, s.2.less, n)

pub spot_in-after-requires : goal.spot_in-after-requires
spot_in-after-requires c =
    let o = object_of (said c.args.leaves.now) c.args.spots.now in
    let n : length c.args.leaves.now ≡ parts o = count_leaves o c.args.leaves.now c.requires.laid.heads_are in
    let s = gathered o c.args.spots.now c.args.at c.loop-place.place c.loop-place.made.items c.loop-place.next c.spot_in-spot.result c.requires.laid.spots_are c.requires.laid.well_formed (omega (arith, c.requires.within, n)) c.spot_in-spot.ensures c.loop-place-test.true c.loop-place.invariant in
    omega (arith, s.2.less, count_spots o c.args.spots.now c.requires.laid.spots_are)

pub loop-place-preserved : goal.loop-place-preserved
loop-place-preserved c = λ q is.
    let o = object_of (said c.args.leaves.now) c.args.spots.now in
    let next = c.loop-place.next in
    let n : length c.args.leaves.now ≡ parts o = count_leaves o c.args.leaves.now c.requires.laid.heads_are in
    let s = gathered o c.args.spots.now c.args.at c.loop-place.place c.loop-place.made.items next c.spot_in-spot.result c.requires.laid.spots_are c.requires.laid.well_formed (omega (arith, c.requires.within, n)) c.spot_in-spot.ensures c.loop-place-test.true c.loop-place.invariant in
    let read : head_at next o ≡ Some c.head_in-head.result.now = ap (λ (l : List Head). slice_get l next) (sym c.requires.laid.heads_are) ∙ c.head_in-head.ensures in
    let there : head_at next o ≡ Some s.2.x.head = s.2.grows.head_is in
    let same : c.head_in-head.result.now ≡ s.2.x.head = cc (read, there) in
    let end = read_spot o s.2.x c.args.spots.now next c.spot_in-after.result c.requires.laid.spots_are s.2.grows c.spot_in-after.ensures in
    let here : part_at c.args.at o ≡ Some s.0 = s.1 in
    let one : s.0 ≡ q = cc (here, is) in
    subst (λ (p : Object). Gathers o p c.args.at (c.loop-place.place + 1) c.put_node.new.made.items c.spot_in-after.result.end) one
    (gathers_on o s.0 c.args.at c.loop-place.place c.loop-place.made.items c.put_node.new.made.items next c.spot_in-after.result.end s.2 (is_some (node_path c.head_in-head.result.now)) (ap (λ (h : Head). is_some (node_path h)) same) c.in_ok-put_node.ensures end.1)

pub returns : goal.returns
returns c = λ q is.
    let o = object_of (said c.args.leaves.now) c.args.spots.now in
    let n : length c.args.leaves.now ≡ parts o = count_leaves o c.args.leaves.now c.requires.laid.heads_are in
    let f = grows o c.args.at (omega (arith, c.requires.within, n)) in
    let size = read_spot o f.0 c.args.spots.now c.args.at c.spot_in-spot.result c.requires.laid.spots_are f.1 c.spot_in-spot.ensures in
    let here : part_at c.args.at o ≡ Some f.0 = f.1.is in
    let one : f.0 ≡ q = cc (here, is) in
    all_gathered o q c.args.at c.loop-place.place c.loop-place.made.items c.loop-place.next (c.loop-place.invariant q is) (subst (λ (p : Object). width p.inner ≤ c.loop-place.place) one (omega (arith, size.0, c.loop-place-test.false)))
