use Rattle.ob_opening_laws.proofs.Moments.{opens_at_each}
use Rattle.ob_opening_laws.proofs.opens_at_each.Goals as goal

pub returns : goal.returns
returns c = opens_at_each
