use Rattle.std.proofs.Common.{◌≡◌, ◌∙◌, ℕ, length, replicate, ap, sym, refl}
use Rattle.std.proofs.lemmas.List.{length-replicate}
use Rattle.ob_object.specs.Object.{parts}
use Rattle.ob_tree.specs.Laid.{said, object_of}
use Rattle.ob_tree.specs.Trees.{Stamped}
use Rattle.ob_tree.proofs.StandsFor.{same_tree}
use Rattle.ob_tree.proofs.Touched.{given_back}
use Rattle.ob_tree.proofs.tree.Tree.renumber.Goals as goal

pub invariant_of-self : goal.invariant_of-self
invariant_of-self c =
    let a = c.self.inside in
    let inv = c.self.invariant.laid in
    let n : length c.renumber.new.stamps ≡ length a.stamps.items = ap length c.renumber.ensures ∙ length-replicate (length c.as_mut_slice.result.now) 1 ∙ ap length c.as_mut_slice.ensures.value in
    record {
      leaves = c.self.invariant.leaves;
      laid = record {
        heads_are = inv.heads_are;
        spots_are = inv.spots_are;
        stamped = ap length (given_back a.stamps.len c.renumber.new.stamps _ (n ∙ sym a.stamps.ok.0)) ∙ n ∙ inv.stamped;
        found = inv.found;
        differ = inv.differ;
        well_formed = inv.well_formed;
      };
    }

pub returns : goal.returns
returns c =
    let a = c.self.inside in
    let inv = c.self.invariant.laid in
    let root : object_of (said a.leaves.items) a.spots.items ≡ c.args.self.now.root = ap (λ (t : Stamped). t.root) c.self.view_is in
    let n : length c.renumber.new.stamps ≡ length a.stamps.items = ap length c.renumber.ensures ∙ length-replicate (length c.as_mut_slice.result.now) 1 ∙ ap length c.as_mut_slice.ensures.value in
    same_tree _ _ _ _ _ _ root
    (given_back a.stamps.len c.renumber.new.stamps _ (n ∙ sym a.stamps.ok.0) ∙ c.renumber.ensures ∙ ap (λ (k : ℕ). replicate k 1) (ap length c.as_mut_slice.ensures.value ∙ inv.stamped ∙ ap parts root))
    refl
