use Rattle.ob_schedule_laws.proofs.Merging.{requests_stand}
use Rattle.ob_schedule_laws.proofs.requests_stand.Goals as goal

pub returns : goal.returns
returns c = requests_stand
