use Rattle.std.proofs.Common.{◌≡◌, ◌<◌, ◌-◌, ◌∙◌, ℕ, Option, Some, None, List, length, sym, ap, subst, arith}
use Rattle.std.proofs.lemmas.Result.{on_ok_weaker}
use Rattle.std.specs.Prelude.{slice_get}
use Rattle.std.specs.Ordering.{nat_cmp}
use Rattle.std.specs.BTreeMap.{get}
use Rattle.ob_object.specs.declared.head.Head.{Head}
use Rattle.ob_object.specs.Object.{parts}
use Rattle.ob_contracts.specs.Inherit.{Contracts}
use Rattle.ob_contracts.specs.Tellers.{Telling, TellsIn}
use Rattle.ob_contracts.proofs.Taught.{tells_none}
use Rattle.ob_tree.specs.Contexts.{Context, handed_down, under}
use Rattle.ob_tree.specs.Standings.{context, MayStand}
use Rattle.ob_tree.specs.Laid.{object_of, said, head_at}
use Rattle.ob_tree.specs.Shown.{standing_at}
use Rattle.ob_tree.specs.Told.{AreToldBy}
use Rattle.ob_tree.proofs.StandsFor.{count_spots}
use Rattle.ob_tree.proofs.Leaves.{count_leaves, said_read}
use Rattle.ob_tree.proofs.Below.{first_child, child_at, next_child, child_stands}
use Rattle.ob_tree.proofs.Giving.{told_at}
use Rattle.ob_tree.proofs.telling.+put_told.Goals as goal

pub spot_in-spot-requires : goal.spot_in-spot-requires
spot_in-spot-requires t c =
    let os = c.args.arena.leaves.now in
    let ss = c.args.arena.spots.now in
    let o = object_of (said os) ss in
    omega (arith, c.requires.within, count_leaves o os c.requires.laid.heads_are, count_spots o ss c.requires.laid.spots_are)

-- an object without children
pub returns-then-spot-eq0 : goal.returns-then-spot-eq0
returns-then-spot-eq0 t c =
    let os = c.args.arena.leaves.now in
    let o = object_of (said os) c.args.arena.spots.now in
    let at = c.args.at in
    let h = c.leaf_in-own.result.now.head in
    let r = context c.args.standing in
    let there : head_at at o ≡ Some h = ap (λ (l : List Head). slice_get l at) (sym c.requires.laid.heads_are) ∙ said_read os at c.leaf_in-own.result.now c.leaf_in-own.ensures in
    let may : MayStand r h (Some (record { is = c.in_ok-told.told; items = None })) = record { is = c.in_ok-told.ensures; items = tells_none r.library (handed_down r h).implied } in
    on_ok_weaker c.put_words.result (λ puts told. puts r.library o (told_at r.library o at r h _ c.requires.stands there may) told) c.put_words.ensures

pub loop-place-init : goal.loop-place-init
loop-place-init t c = record {
  number = first_child (object_of (said c.args.arena.leaves.now) c.args.arena.spots.now) c.args.at;
  told = λ told. told;
}

pub leaf_in-child-requires : goal.leaf_in-child-requires
leaf_in-child-requires t c =
    let os = c.args.arena.leaves.now in
    let ss = c.args.arena.spots.now in
    let o = object_of (said os) ss in
    let n : length os ≡ parts o = count_leaves o os c.requires.laid.heads_are in
    let s = child_at o ss c.args.at c.loop-place.place c.loop-place.next c.spot_in-spot.result c.requires.laid.spots_are c.requires.laid.well_formed (omega (arith, c.requires.within, n)) c.spot_in-spot.ensures c.loop-place-test.true c.loop-place.invariant.number in
    omega (arith, s.less, n)

pub hand_down-requires : goal.hand_down-requires
hand_down-requires t c =
    let lib = c.args.standing.library.now in
    subst (λ (x : Option Telling). TellsIn lib x c.leaf_in-own.result.now.head.is) (sym c.as_ref.ensures.value) c.in_ok-told.ensures

pub put_told-requires : goal.put_told-requires
put_told-requires t c =
    let os = c.args.arena.leaves.now in
    let ss = c.args.arena.spots.now in
    let o = object_of (said os) ss in
    let at = c.args.at in
    let next = c.loop-place.next in
    let h = c.leaf_in-own.result.now.head in
    let k = c.leaf_in-child.result.now.head in
    let r = context c.args.standing in
    let i = context c.inside-inside.result in
    let n : length os ≡ parts o = count_leaves o os c.requires.laid.heads_are in
    let s = child_at o ss at c.loop-place.place next c.spot_in-spot.result c.requires.laid.spots_are c.requires.laid.well_formed (omega (arith, c.requires.within, n)) c.spot_in-spot.ensures c.loop-place-test.true c.loop-place.invariant.number in
    let there : head_at at o ≡ Some h = ap (λ (l : List Head). slice_get l at) (sym c.requires.laid.heads_are) ∙ said_read os at c.leaf_in-own.result.now c.leaf_in-own.ensures in
    let here : head_at next o ≡ Some k = ap (λ (l : List Head). slice_get l next) (sym c.requires.laid.heads_are) ∙ said_read os next c.leaf_in-child.result.now c.leaf_in-child.ensures in
    let is : i ≡ under (handed_down r h) k.name = c.inside-inside.ensures (handed_down r h) c.in_ok-handed.ensures ∙ ap (under (handed_down r h)) c.name.ensures in
    let stands : Some i ≡ standing_at i.library next o =
    subst (λ (l : Contracts). Some i ≡ standing_at l next o) (sym (ap (λ (x : Context). x.library) is)) (child_stands r.library o r i at c.loop-place.place next h k s c.requires.stands there here is) in
    (subst (λ (m : ℕ). length os - next < m) c.decreases (omega (arith, s.less, s.more, n)), (c.requires.laid, (omega (arith, s.less, n), stands)))

pub spot_in-behind-requires : goal.spot_in-behind-requires
spot_in-behind-requires t c =
    let os = c.args.arena.leaves.now in
    let ss = c.args.arena.spots.now in
    let o = object_of (said os) ss in
    let n : length os ≡ parts o = count_leaves o os c.requires.laid.heads_are in
    let s = child_at o ss c.args.at c.loop-place.place c.loop-place.next c.spot_in-spot.result c.requires.laid.spots_are c.requires.laid.well_formed (omega (arith, c.requires.within, n)) c.spot_in-spot.ensures c.loop-place-test.true c.loop-place.invariant.number in
    omega (arith, s.less, count_spots o ss c.requires.laid.spots_are)

pub loop-place-preserved : goal.loop-place-preserved
loop-place-preserved t c =
    let os = c.args.arena.leaves.now in
    let ss = c.args.arena.spots.now in
    let o = object_of (said os) ss in
    let h = c.leaf_in-own.result.now.head in
    let k = c.leaf_in-child.result.now.head in
    let r = context c.args.standing in
    let i = context c.inside-inside.result in
    let n : length os ≡ parts o = count_leaves o os c.requires.laid.heads_are in
    let s = child_at o ss c.args.at c.loop-place.place c.loop-place.next c.spot_in-spot.result c.requires.laid.spots_are c.requires.laid.well_formed (omega (arith, c.requires.within, n)) c.spot_in-spot.ensures c.loop-place-test.true c.loop-place.invariant.number in
    let is : i ≡ under (handed_down r h) k.name = c.inside-inside.ensures (handed_down r h) c.in_ok-handed.ensures ∙ ap (under (handed_down r h)) c.name.ensures in
    record {
      number = next_child o ss c.args.at c.loop-place.place c.loop-place.next c.spot_in-behind.result c.requires.laid.spots_are s c.spot_in-behind.ensures;
      told = λ told. subst (λ (l : Contracts). AreToldBy l o (get nat_cmp c.loop-place.words) → AreToldBy l o (get nat_cmp c.put_told.new.words)) (ap (λ (x : Context). x.library) is) c.in_ok-put_told.ensures (c.loop-place.invariant.told told);
    }

pub returns : goal.returns
returns t c =
    let os = c.args.arena.leaves.now in
    let o = object_of (said os) c.args.arena.spots.now in
    let at = c.args.at in
    let h = c.leaf_in-own.result.now.head in
    let r = context c.args.standing in
    let there : head_at at o ≡ Some h = ap (λ (l : List Head). slice_get l at) (sym c.requires.laid.heads_are) ∙ said_read os at c.leaf_in-own.result.now c.leaf_in-own.ensures in
    let may : MayStand r h (Some (record { is = c.in_ok-told.told; items = c.told_items-items.result })) =
    record { is = c.in_ok-told.ensures; items = c.told_items-items.ensures (handed_down r h) c.in_ok-handed.ensures } in
    on_ok_weaker c.put_words-2.result (λ puts told. puts r.library o (told_at r.library o at r h _ c.requires.stands there may) (c.loop-place.invariant.told told)) c.put_words-2.ensures
