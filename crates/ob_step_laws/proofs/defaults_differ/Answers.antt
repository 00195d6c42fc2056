use Rattle.ob_step_laws.proofs.Unslotted.{defaults_differ}
use Rattle.ob_step_laws.proofs.defaults_differ.Goals as goal

pub returns : goal.returns
returns c = defaults_differ
