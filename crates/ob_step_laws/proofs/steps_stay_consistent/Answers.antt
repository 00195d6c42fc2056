use Rattle.ob_step_laws.proofs.Staying.{steps_stay_consistent}
use Rattle.ob_step_laws.proofs.steps_stay_consistent.Goals as goal

pub returns : goal.returns
returns c = steps_stay_consistent
