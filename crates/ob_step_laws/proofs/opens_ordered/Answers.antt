use Rattle.ob_step_laws.proofs.Ordered as lemma
use Rattle.ob_step_laws.proofs.opens_ordered.Goals as goal

pub returns : goal.returns
returns c = lemma.opens_ordered
