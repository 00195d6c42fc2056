use Rattle.ob_step_laws.proofs.Unrolled as lemma
use Rattle.ob_step_laws.proofs.unrolled_is_consistent.Goals as goal

pub returns : goal.returns
returns c = lemma.unrolled_is_consistent
