use Rattle.std.proofs.Common.{◌≡◌, ◌<◌, ◌∙◌, ℕ, Option, Some, None, List, length, sym, ap, subst, arith}
use Rattle.std.specs.Prelude.{slice_get}
use Rattle.ob_object.specs.declared.head.Head.{Head}
use Rattle.ob_object.specs.Object.{parts}
use Rattle.ob_tree.specs.declared.instead.Instead.{Instead}
use Rattle.ob_tree.specs.Contexts.{handed_down, under}
use Rattle.ob_tree.specs.Standings.{context, MayStand}
use Rattle.ob_tree.specs.Laid.{object_of, said, head_at}
use Rattle.ob_tree.specs.Shown.{handed_at, handed}
use Rattle.ob_tree.proofs.StandsFor.{count_spots}
use Rattle.ob_tree.proofs.Leaves.{count_leaves, said_read}
use Rattle.ob_tree.proofs.Contexts.{context_below, context_top, parent_before, parent_read, stands_below, stands_on_top}
use Rattle.ob_tree.proofs.Deep.{depth_below, depth_top}
use Rattle.ob_tree.proofs.Growing.{grows}
use Rattle.ob_tree.proofs.shown.+standing_of.Goals as goal

pub spot_in-spot-requires : goal.spot_in-spot-requires
spot_in-spot-requires g t c =
    let o = object_of (said c.args.leaves.now) c.args.spots.now in
    omega (arith, c.requires.within, count_leaves o c.args.leaves.now c.requires.laid.heads_are, count_spots o c.args.spots.now c.requires.laid.spots_are)

pub standing_of-round-requires : goal.standing_of-round-requires
standing_of-round-requires g t c =
    let o = object_of (said c.args.leaves.now) c.args.spots.now in
    let n : length c.args.leaves.now ≡ parts o = count_leaves o c.args.leaves.now c.requires.laid.heads_are in
    let up = parent_read c.args.spots.now c.args.at c.spot_in-spot.result (Some c.in-Some.parent) c.spot_in-spot.ensures c.in-Some.is in
    let less : c.in-Some.parent < c.args.at = parent_before c.args.lore.library.now o c.args.spots.now c.args.at c.in-Some.parent c.requires.laid.spots_are (omega (arith, c.requires.within, n)) up in
    λ κs lives. (subst (λ (k : ℕ). c.in-Some.parent < k) c.decreases less, (lives, (c.requires.laid, (omega (arith, less, c.requires.within), c.requires.told))))

pub leaf_in-own-requires : goal.leaf_in-own-requires
leaf_in-own-requires g t c =
    let o = object_of (said c.args.leaves.now) c.args.spots.now in
    let n : length c.args.leaves.now ≡ parts o = count_leaves o c.args.leaves.now c.requires.laid.heads_are in
    let up = parent_read c.args.spots.now c.args.at c.spot_in-spot.result (Some c.in-Some.parent) c.spot_in-spot.ensures c.in-Some.is in
    let less : c.in-Some.parent < c.args.at = parent_before c.args.lore.library.now o c.args.spots.now c.args.at c.in-Some.parent c.requires.laid.spots_are (omega (arith, c.requires.within, n)) up in
    omega (arith, less, c.requires.within)

pub inside-requires : goal.inside-requires
inside-requires g t c =
    let os = c.args.leaves.now in
    let o = object_of (said os) c.args.spots.now in
    let p = c.in-Some.parent in
    let h = c.leaf_in-own.result.now.head in
    let r = context c.standing_of-round.result in
    let there : head_at p o ≡ Some h = ap (λ (l : List Head). slice_get l p) (sym c.requires.laid.heads_are) ∙ said_read os p c.leaf_in-own.result.now c.leaf_in-own.ensures in
    subst (λ (t : Option Instead). MayStand r h t) (sym c.words_for-told.ensures) (c.requires.told p r h c.standing_of-round.ensures.stands there)

pub returns-in-Some : goal.returns-in-Some
returns-in-Some g t c =
    let lib = c.args.lore.library.now in
    let os = c.args.leaves.now in
    let o = object_of (said os) c.args.spots.now in
    let at = c.args.at in
    let p = c.in-Some.parent in
    let h = c.leaf_in-own.result.now.head in
    let k = c.leaf_in-child.result.now.head in
    let r = context c.standing_of-round.result in
    let n : length os ≡ parts o = count_leaves o os c.requires.laid.heads_are in
    let up = parent_read c.args.spots.now at c.spot_in-spot.result (Some p) c.spot_in-spot.ensures c.in-Some.is in
    let there : head_at p o ≡ Some h = ap (λ (l : List Head). slice_get l p) (sym c.requires.laid.heads_are) ∙ said_read os p c.leaf_in-own.result.now c.leaf_in-own.ensures in
    let here : head_at at o ≡ Some k = ap (λ (l : List Head). slice_get l at) (sym c.requires.laid.heads_are) ∙ said_read os at c.leaf_in-child.result.now c.leaf_in-child.ensures in
    let down : handed_at lib at o ≡ handed (handed_at lib p o) h = context_below lib o c.args.spots.now at p h c.requires.laid.spots_are (omega (arith, c.requires.within, n)) up there in
    record {
      stands = stands_below lib o r (context c.inside.result) at p h k c.standing_of-round.ensures.stands there here down (c.inside.ensures.inside ∙ ap (under (handed_down r h)) c.name.ensures);
      steps = omega (arith, c.inside.ensures.steps, c.standing_of-round.ensures.steps, depth_below o c.args.spots.now at p c.requires.laid.spots_are (omega (arith, c.requires.within, n)) up);
    }

pub returns-in-None : goal.returns-in-None
returns-in-None g t c =
    let lib = c.args.lore.library.now in
    let os = c.args.leaves.now in
    let o = object_of (said os) c.args.spots.now in
    let n : length os ≡ parts o = count_leaves o os c.requires.laid.heads_are in
    let there : c.args.at < parts o = omega (arith, c.requires.within, n) in
    let up = parent_read c.args.spots.now c.args.at c.spot_in-spot.result None c.spot_in-spot.ensures c.in-None.is in
    let f = grows o c.args.at there in
    record {
      stands = stands_on_top lib o (context c.at_root.result) c.args.at f.0.head f.1.head_is (context_top lib o c.args.spots.now c.args.at c.requires.laid.spots_are there up) c.at_root.ensures;
      steps = omega (arith, depth_top o c.args.spots.now c.args.at c.requires.laid.spots_are there up);
    }
