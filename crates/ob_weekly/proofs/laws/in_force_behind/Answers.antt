use Rattle.ob_weekly.proofs.Behind.{in_force_behind}
use Rattle.ob_weekly.proofs.laws.in_force_behind.Goals as goal

pub returns : goal.returns
returns c = in_force_behind
