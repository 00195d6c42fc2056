use Rattle.ob_shown_laws.proofs.OwnStanding.{own_tells_differences}
use Rattle.ob_shown_laws.proofs.own_tells_differences.Goals as goal

pub returns : goal.returns
returns c = own_tells_differences
