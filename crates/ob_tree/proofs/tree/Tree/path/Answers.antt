use Rattle.std.proofs.Common.{ap, ◌∙◌}
use Rattle.ob_object.specs.Paths.{node_path}
use Rattle.ob_tree.proofs.Leaves.{path_said}
use Rattle.ob_tree.proofs.tree.Tree.path.Goals as goal

pub returns : goal.returns
returns c = path_said c.own.result.now _ _ c.own.ensures (c.node_path.ensures ∙ ap node_path c.head.ensures.value)
