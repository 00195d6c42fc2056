use Rattle.ob_step_laws.proofs.Reached.{defaults_reach}
use Rattle.ob_step_laws.proofs.defaults_reach.Goals as goal

pub returns : goal.returns
returns c = defaults_reach
