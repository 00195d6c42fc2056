use Rattle.ob_step_laws.proofs.OneKind as lemma
use Rattle.ob_step_laws.proofs.apart_are_of_one_kind.Goals as goal

pub returns : goal.returns
returns c = lemma.apart_are_of_one_kind
