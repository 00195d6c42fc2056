use Rattle.ob_step_laws.proofs.Either.{defaults_settle}
use Rattle.ob_step_laws.proofs.defaults_settle.Goals as goal

pub returns : goal.returns
returns c = defaults_settle
