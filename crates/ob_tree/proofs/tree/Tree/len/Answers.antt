use Rattle.std.proofs.Common.{length, ap, ◌∙◌}
use Rattle.ob_object.specs.Object.{parts}
use Rattle.ob_tree.specs.Laid.{said, object_of}
use Rattle.ob_tree.specs.Trees.{Stamped}
use Rattle.ob_tree.proofs.Leaves.{count_leaves}
use Rattle.ob_tree.proofs.tree.Tree.len.Goals as goal

pub returns : goal.returns
returns c =
    let a = c.self.inside in
    ap length c.as_slice.ensures.value ∙ count_leaves (object_of (said a.leaves.items) a.spots.items) a.leaves.items c.self.invariant.laid.heads_are ∙ ap parts (ap (λ (t : Stamped). t.root) c.self.view_is)
