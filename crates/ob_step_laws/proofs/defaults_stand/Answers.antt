use Rattle.ob_step_laws.proofs.Reached.{defaults_stand}
use Rattle.ob_step_laws.proofs.defaults_stand.Goals as goal

pub returns : goal.returns
returns c = defaults_stand
