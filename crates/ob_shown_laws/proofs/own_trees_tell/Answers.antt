use Rattle.ob_shown_laws.proofs.Owned.{own_trees_tell}
use Rattle.ob_shown_laws.proofs.own_trees_tell.Goals as goal

pub returns : goal.returns
returns c = own_trees_tell
