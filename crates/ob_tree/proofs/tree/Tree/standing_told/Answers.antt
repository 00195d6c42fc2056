use Rattle.std.proofs.Common.{◌<◌, ◌+◌, ◌∙◌, List, length, sym, ap, subst}
use Rattle.ob_object.specs.Object.{Object}
use Rattle.ob_tree.specs.Depths.{depth_at}
use Rattle.ob_tree.specs.Shown.{standing_at}
use Rattle.ob_tree.specs.Told.{AreToldBy, words_for}
use Rattle.ob_tree.specs.Trees.{Stamped}
use Rattle.ob_tree.proofs.Leaves.{leaf_within, are_laid}
use Rattle.ob_tree.proofs.Wholes.{same_object}
use Rattle.ob_tree.proofs.tree.Tree.standing_told.Goals as goal

pub standing_of-requires-clause-laid : goal.standing_of-requires-clause-laid
standing_of-requires-clause-laid g c = are_laid _ _ _ _ _ _ c.self.invariant c.as_slice-leaves.ensures.value c.as_slice-spots.ensures.value

pub standing_of-requires-clause-within : goal.standing_of-requires-clause-within
standing_of-requires-clause-within g c =
    subst (λ (l : List Object). c.args.id.number < length l) (sym c.as_slice-leaves.ensures.value) (leaf_within c.args.self.now.root _ _ _ _ c.args.id.number c.self.invariant (ap (λ (t : Stamped). t.root) c.self.view_is) c.requires.within)

pub standing_of-requires-clause-told : goal.standing_of-requires-clause-told
standing_of-requires-clause-told g c =
    subst (λ (o : Object). AreToldBy c.args.library.now o (words_for c.args.told))
    (sym (same_object _ _ _ _ c.args.self.now.root c.as_slice-leaves.ensures.value c.as_slice-spots.ensures.value (ap (λ (t : Stamped). t.root) c.self.view_is))) c.requires.told

pub returns-clause-stands : goal.returns-clause-stands
returns-clause-stands g c =
    c.standing_of.ensures.stands
    ∙ ap (standing_at c.args.library.now c.args.id.number) (same_object _ _ _ _ c.args.self.now.root c.as_slice-leaves.ensures.value c.as_slice-spots.ensures.value (ap (λ (t : Stamped). t.root) c.self.view_is))

pub returns-clause-steps : goal.returns-clause-steps
returns-clause-steps g c =
    c.standing_of.ensures.steps
    ∙ ap (λ (o : Object). c.args.steps.now + depth_at c.args.id.number o) (same_object _ _ _ _ c.args.self.now.root c.as_slice-leaves.ensures.value c.as_slice-spots.ensures.value (ap (λ (t : Stamped). t.root) c.self.view_is))
