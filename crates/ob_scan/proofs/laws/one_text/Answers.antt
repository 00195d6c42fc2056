use Rattle.ob_scan.proofs.Meanings as meanings
use Rattle.ob_scan.proofs.laws.one_text.Goals as goal

pub returns : goal.returns
returns c = meanings.one_text
