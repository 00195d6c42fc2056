use Rattle.ob_http.proofs.RequestsLemmas as lemmas
use Rattle.ob_http.proofs.laws.none_is_unframed.Goals as goal

pub returns : goal.returns
returns c = lemmas.none_unframed
