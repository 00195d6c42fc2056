use Rattle.ob_opening_laws.proofs.Moments.{refused_at_each}
use Rattle.ob_opening_laws.proofs.refused_at_each.Goals as goal

pub returns : goal.returns
returns c = refused_at_each
