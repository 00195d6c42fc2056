use Rattle.std.proofs.Common.{◌≡◌, ◌∙◌, ℕ, List, length, None, ap, sym}
use Rattle.ob_tree.specs.declared.spot.Spot.{Spot}
use Rattle.ob_tree.specs.Laid.{said, object_of, spots_of}
use Rattle.ob_tree.specs.Stamps.{stamped}
use Rattle.ob_tree.specs.Trees.{Stamped}
use Rattle.ob_tree.proofs.StandsFor.{count_spots, same_tree}
use Rattle.ob_tree.proofs.Touched.{length-stamped, given_back}
use Rattle.ob_tree.proofs.tree.Tree.touch.Goals as goal

pub stamp_up-requires-clause-same : goal.stamp_up-requires-clause-same
stamp_up-requires-clause-same c =
    let a = c.self.inside in
    ap length c.as_mut_slice-stamps.ensures.value ∙ c.self.invariant.laid.stamped ∙ sym (count_spots (object_of (said a.leaves.items) a.spots.items) a.spots.items c.self.invariant.laid.spots_are) ∙ sym (ap length c.as_slice.ensures.value)

pub invariant_of-self : goal.invariant_of-self
invariant_of-self c =
    let a = c.self.inside in
    let inv = c.self.invariant.laid in
    let same : length c.as_mut_slice-stamps.result.now ≡ length c.as_slice.result.now =
    ap length c.as_mut_slice-stamps.ensures.value ∙ inv.stamped ∙ sym (count_spots (object_of (said a.leaves.items) a.spots.items) a.spots.items inv.spots_are) ∙ sym (ap length c.as_slice.ensures.value) in
    let n : length c.stamp_up.new.stamps ≡ length a.stamps.items =
    ap length c.stamp_up.ensures ∙ length-stamped c.args.id.number a.steps 0 c.as_slice.result.now c.as_mut_slice-stamps.result.now same ∙ ap length c.as_mut_slice-stamps.ensures.value in
    record {
      leaves = c.self.invariant.leaves;
      laid = record {
        heads_are = inv.heads_are;
        spots_are = inv.spots_are;
        stamped = ap length (given_back a.stamps.len c.stamp_up.new.stamps _ (n ∙ sym a.stamps.ok.0)) ∙ n ∙ inv.stamped;
        found = inv.found;
        differ = inv.differ;
        well_formed = inv.well_formed;
      };
    }

pub returns : goal.returns
returns c =
    let a = c.self.inside in
    let inv = c.self.invariant.laid in
    let id = c.args.id.number in
    let old = c.args.self.now in
    let root : object_of (said a.leaves.items) a.spots.items ≡ old.root = ap (λ (t : Stamped). t.root) c.self.view_is in
    let same : length c.as_mut_slice-stamps.result.now ≡ length c.as_slice.result.now =
    ap length c.as_mut_slice-stamps.ensures.value ∙ inv.stamped ∙ sym (count_spots (object_of (said a.leaves.items) a.spots.items) a.spots.items inv.spots_are) ∙ sym (ap length c.as_slice.ensures.value) in
    let n : length c.stamp_up.new.stamps ≡ length a.stamps.items =
    ap length c.stamp_up.ensures ∙ length-stamped id a.steps 0 c.as_slice.result.now c.as_mut_slice-stamps.result.now same ∙ ap length c.as_mut_slice-stamps.ensures.value in
    let steps : a.steps ≡ old.steps = ap (λ (t : Stamped). t.steps) c.self.view_is in
    same_tree _ _ _ _ _ _ root
    (given_back a.stamps.len c.stamp_up.new.stamps _ (n ∙ sym a.stamps.ok.0)
    ∙ c.stamp_up.ensures
    ∙ ap (λ (l : List Spot). stamped id a.steps 0 l c.as_mut_slice-stamps.result.now) (c.as_slice.ensures.value ∙ inv.spots_are ∙ ap (spots_of 0 None) root)
    ∙ ap (stamped id a.steps 0 (spots_of 0 None old.root)) (c.as_mut_slice-stamps.ensures.value ∙ ap (λ (t : Stamped). t.stamps) c.self.view_is)
    ∙ ap (λ (k : ℕ). stamped id k 0 (spots_of 0 None old.root) old.stamps) steps)
    steps
