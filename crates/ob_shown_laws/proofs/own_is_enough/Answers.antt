use Rattle.ob_shown_laws.proofs.OwnStanding.{own_is_enough}
use Rattle.ob_shown_laws.proofs.own_is_enough.Goals as goal

pub returns : goal.returns
returns c = own_is_enough
