use Rattle.ob_http.specs.Request.{Stands}
use Rattle.ob_http.proofs.StreamLemmas as stream
use Rattle.ob_http.proofs.RequestsLemmas.{request_framing}
use Rattle.ob_http.proofs.laws.end_stays.Goals as goal

pub returns : goal.returns
returns c = stream.end_stays Stands (λ r. r.close) request_framing
