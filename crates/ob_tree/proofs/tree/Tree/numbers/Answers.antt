use Rattle.std.proofs.Common.{ap, subst}
use Rattle.std.proofs.lemmas.Result.{IfOk-weaker}
use Rattle.ob_object.specs.Object.{Object}
use Rattle.ob_tree.specs.Children.{AreNumbered}
use Rattle.ob_tree.specs.Trees.{Stamped}
use Rattle.ob_tree.proofs.Leaves.{are_laid}
use Rattle.ob_tree.proofs.Wholes.{same_object}
use Rattle.ob_tree.proofs.tree.Tree.numbers.Goals as goal

pub all_numbers-requires : goal.all_numbers-requires
all_numbers-requires c = are_laid _ _ _ _ _ _ c.self.invariant c.as_slice-leaves.ensures.value c.as_slice-spots.ensures.value

pub returns : goal.returns
returns c =
    IfOk-weaker c.all_numbers.result _ _
    (λ all held. subst (λ (x : Object). AreNumbered x all) (same_object _ _ _ _ c.args.self.now.root c.as_slice-leaves.ensures.value c.as_slice-spots.ensures.value (ap (λ (t : Stamped). t.root) c.self.view_is)) held) c.all_numbers.ensures
