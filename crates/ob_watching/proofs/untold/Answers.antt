use Rattle.ob_watching.proofs.Unheld.{untold as is_not_held}
use Rattle.ob_watching.proofs.untold.Goals as goal

pub returns : goal.returns
returns c = is_not_held
