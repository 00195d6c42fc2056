use Rattle.ob_scan.proofs.Meanings as meanings
use Rattle.ob_scan.proofs.laws.well_found.Goals as goal

pub returns : goal.returns
returns c = meanings.well_found
