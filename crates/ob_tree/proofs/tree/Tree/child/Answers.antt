use Rattle.std.proofs.Common.{◌<◌, ◌∙◌, List, length, ap, sym, subst}
use Rattle.ob_object.specs.Object.{Object}
use Rattle.ob_tree.specs.Trees.{Stamped}
use Rattle.ob_tree.specs.Children.{child_at}
use Rattle.ob_tree.proofs.Leaves.{leaf_within, are_laid}
use Rattle.ob_tree.proofs.Wholes.{same_object}
use Rattle.ob_tree.proofs.Named.{child_within}
use Rattle.ob_tree.proofs.tree.Tree.child.Goals as goal

pub child_of-requires-clause-laid : goal.child_of-requires-clause-laid
child_of-requires-clause-laid c = are_laid _ _ _ _ _ _ c.self.invariant c.as_slice-leaves.ensures.value c.as_slice-spots.ensures.value

pub child_of-requires-clause-within : goal.child_of-requires-clause-within
child_of-requires-clause-within c =
    subst (λ (l : List Object). c.args.id.number < length l) (sym c.as_slice-leaves.ensures.value) (leaf_within c.args.self.now.root _ _ _ _ c.args.id.number c.self.invariant (ap (λ (t : Stamped). t.root) c.self.view_is) c.requires)

pub returns-in-Some-clause-within : goal.returns-in-Some-clause-within
returns-in-Some-clause-within c =
    child_within c.args.self.now.root c.args.id.number c.args.name.now c.in-Some.place c.requires
    (ap (child_at c.args.id.number c.args.name.now) (sym (same_object _ _ _ _ c.args.self.now.root c.as_slice-leaves.ensures.value c.as_slice-spots.ensures.value (ap (λ (t : Stamped). t.root) c.self.view_is))) ∙ sym c.in-Some.ensures)
