use Rattle.ob_step_laws.proofs.Taking as taking
use Rattle.ob_step_laws.proofs.added_are_taken.Goals as goal

pub returns : goal.returns
returns c = taking.added_are_taken
