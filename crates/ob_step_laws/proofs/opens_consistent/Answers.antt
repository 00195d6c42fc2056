use Rattle.ob_step_laws.proofs.Opened as lemma
use Rattle.ob_step_laws.proofs.opens_consistent.Goals as goal

pub returns : goal.returns
returns c = lemma.opens_consistent
