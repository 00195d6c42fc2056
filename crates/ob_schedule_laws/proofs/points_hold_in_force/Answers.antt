use Rattle.ob_schedule_laws.proofs.InForce.{points_hold}
use Rattle.ob_schedule_laws.proofs.points_hold_in_force.Goals as goal

pub returns : goal.returns
returns c = points_hold
