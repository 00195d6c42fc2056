use Rattle.ob_opening_laws.proofs.Roles.{opens_roles}
use Rattle.ob_opening_laws.proofs.opens_roles.Goals as goal

pub returns : goal.returns
returns c = opens_roles
