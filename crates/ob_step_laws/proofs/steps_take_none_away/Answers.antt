use Rattle.ob_step_laws.proofs.Steps.{take_none_away}
use Rattle.ob_step_laws.proofs.steps_take_none_away.Goals as goal

pub returns : goal.returns
returns c = take_none_away
