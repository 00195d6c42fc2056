use Rattle.ob_tree.proofs.Deep.{depths_are_levels}
use Rattle.ob_tree.proofs.laws.depths_are_levels.Goals as goal

pub returns : goal.returns
returns c = depths_are_levels
