use Rattle.ob_step_laws.proofs.Once as lemma
use Rattle.ob_step_laws.proofs.taken_once.Goals as goal

pub returns : goal.returns
returns c = lemma.taken_once
