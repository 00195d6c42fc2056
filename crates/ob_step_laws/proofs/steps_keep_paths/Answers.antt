use Rattle.ob_step_laws.proofs.Paths.{steps_keep_paths}
use Rattle.ob_step_laws.proofs.steps_keep_paths.Goals as goal

pub returns : goal.returns
returns c = steps_keep_paths
