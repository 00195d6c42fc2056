use Rattle.ob_step_laws.proofs.Apart.{opens_apart}
use Rattle.ob_step_laws.proofs.opens_apart.Goals as goal

pub returns : goal.returns
returns c = opens_apart
