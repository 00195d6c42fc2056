use Rattle.ob_http.proofs.RepliesLemmas as lemmas
use Rattle.ob_http.proofs.laws.no_reply_is_unframed.Goals as goal

pub returns : goal.returns
returns c = lemmas.none_unframed
