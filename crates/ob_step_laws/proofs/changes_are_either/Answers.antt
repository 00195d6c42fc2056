use Rattle.ob_step_laws.proofs.Either.{changes_are_either}
use Rattle.ob_step_laws.proofs.changes_are_either.Goals as goal

pub returns : goal.returns
returns c = changes_are_either
