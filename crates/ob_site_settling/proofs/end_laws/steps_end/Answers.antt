use Rattle.ob_site_settling.proofs.Ends.{steps_end}
use Rattle.ob_site_settling.proofs.end_laws.steps_end.Goals as goal

pub returns : goal.returns
returns c = steps_end
