use Rattle.ob_scan.proofs.Longer as longer
use Rattle.ob_scan.proofs.laws.judged_once.Goals as goal

pub returns : goal.returns
returns c = longer.judged_once
