use Rattle.std.proofs.Common.{◌<◌, List, length, sym, ap, subst}
use Rattle.ob_object.specs.Object.{Object}
use Rattle.ob_tree.specs.Trees.{Stamped}
use Rattle.ob_tree.proofs.Leaves.{leaf_within, are_laid}
use Rattle.ob_tree.proofs.tree.Tree.copy.Goals as goal

pub grown-requires-clause-laid : goal.grown-requires-clause-laid
grown-requires-clause-laid c = are_laid _ _ _ _ _ _ c.self.invariant c.as_slice-leaves.ensures.value c.as_slice-spots.ensures.value

pub grown-requires-clause-within : goal.grown-requires-clause-within
grown-requires-clause-within c =
    subst (λ (l : List Object). c.args.id.number < length l) (sym c.as_slice-leaves.ensures.value) (leaf_within c.args.self.now.root _ _ _ _ c.args.id.number c.self.invariant (ap (λ (t : Stamped). t.root) c.self.view_is) c.requires)
