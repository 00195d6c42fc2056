use Rattle.std.proofs.Common.{ap, subst}
use Rattle.std.specs.Ordering.{nat_cmp}
use Rattle.std.specs.BTreeMap.{get}
use Rattle.ob_object.specs.Object.{Object}
use Rattle.ob_contracts.specs.Inherit.{Contracts}
use Rattle.ob_tree.specs.Contexts.{Context}
use Rattle.ob_tree.specs.Laid.{object_of, said}
use Rattle.ob_tree.specs.Told.{AreToldBy}
use Rattle.ob_tree.specs.Trees.{Stamped}
use Rattle.ob_tree.proofs.Wholes.{same_object}
use Rattle.ob_tree.proofs.Giving.{told_none}
use Rattle.ob_tree.proofs.tree.Tree.telling.Goals as goal

pub returns : goal.returns
returns c =
    let o = object_of (said c.as_slice-leaves.result.now) c.as_slice-spots.result.now in
    let lib = c.at_root-root.result.library.now in
    subst (λ (l : Contracts). AreToldBy l c.args.self.now.root (get nat_cmp c.put_told.new.words)) (ap (λ (x : Context). x.library) c.at_root-root.ensures)
    (subst (λ (x : Object). AreToldBy lib x (get nat_cmp c.put_told.new.words)) (same_object _ _ _ _ c.args.self.now.root c.as_slice-leaves.ensures.value c.as_slice-spots.ensures.value (ap (λ (t : Stamped). t.root) c.self.view_is))
    (c.in_ok-put_told.ensures (told_none lib o c.new-words.result c.new-words.ensures.empty)))
