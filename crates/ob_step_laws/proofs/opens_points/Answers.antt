use Rattle.ob_step_laws.proofs.Opening.{opens_points}
use Rattle.ob_step_laws.proofs.opens_points.Goals as goal

pub returns : goal.returns
returns c = opens_points
