use Rattle.ob_http.specs.Request.{Stands}
use Rattle.ob_http.proofs.StreamLemmas.{framed_unique}
use Rattle.ob_http.proofs.RequestsLemmas.{request_framing}
use Rattle.ob_http.proofs.laws.framing_is_one.Goals as goal

pub returns : goal.returns
returns c = framed_unique Stands (λ r. r.close) request_framing
