use Rattle.ob_step_laws.proofs.Ordered as lemma
use Rattle.ob_step_laws.proofs.opens_in_time.Goals as goal

pub returns : goal.returns
returns c = lemma.opens_in_time
