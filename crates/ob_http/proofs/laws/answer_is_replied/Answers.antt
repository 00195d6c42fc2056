use Rattle.ob_http.proofs.AnsweringLemmas as lemmas
use Rattle.ob_http.proofs.laws.answer_is_replied.Goals as goal

pub returns : goal.returns
returns c = lemmas.answer_is_replied
