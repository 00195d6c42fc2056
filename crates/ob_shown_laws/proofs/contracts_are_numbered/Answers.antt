use Rattle.ob_shown_laws.proofs.Contracting.{contracts_numbered}
use Rattle.ob_shown_laws.proofs.contracts_are_numbered.Goals as goal

pub returns : goal.returns
returns c = contracts_numbered
