use Rattle.std.proofs.Common.{◌<◌, List, length, ap, sym, subst}
use Rattle.std.proofs.lemmas.Result.{IfOk-weaker}
use Rattle.ob_object.specs.Object.{Object}
use Rattle.ob_tree.specs.Trees.{Stamped}
use Rattle.ob_tree.specs.Children.{AreChildNodes}
use Rattle.ob_tree.proofs.Leaves.{leaf_within, are_laid}
use Rattle.ob_tree.proofs.Wholes.{same_object}
use Rattle.ob_tree.proofs.tree.Tree.child_nodes.Goals as goal

pub child_nodes-requires-clause-laid : goal.child_nodes-requires-clause-laid
child_nodes-requires-clause-laid c = are_laid _ _ _ _ _ _ c.self.invariant c.as_slice-leaves.ensures.value c.as_slice-spots.ensures.value

pub child_nodes-requires-clause-within : goal.child_nodes-requires-clause-within
child_nodes-requires-clause-within c =
    subst (λ (l : List Object). c.args.id.number < length l) (sym c.as_slice-leaves.ensures.value) (leaf_within c.args.self.now.root _ _ _ _ c.args.id.number c.self.invariant (ap (λ (t : Stamped). t.root) c.self.view_is) c.requires)

pub returns : goal.returns
returns c =
    IfOk-weaker c.child_nodes.result _ _
    (λ made held. subst (λ (x : Object). AreChildNodes c.args.id.number x made.items) (same_object _ _ _ _ c.args.self.now.root c.as_slice-leaves.ensures.value c.as_slice-spots.ensures.value (ap (λ (t : Stamped). t.root) c.self.view_is)) held) c.child_nodes.ensures
