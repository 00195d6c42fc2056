use Rattle.ob_kept.proofs.Restarts.{keep_numbers}
use Rattle.ob_kept.proofs.laws.restarts_keep_numbers.Goals as goal

pub returns : goal.returns
returns c = keep_numbers
