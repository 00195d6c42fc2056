use Rattle.ob_http.proofs.AskingLemmas as lemmas
use Rattle.ob_http.proofs.laws.asked_is_framed.Goals as goal

pub returns : goal.returns
returns c = lemmas.asked_is_framed
