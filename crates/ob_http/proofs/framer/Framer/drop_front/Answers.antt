use Rattle.std.proofs.Common.{sym, subst}
use Rattle.ob_http.specs.Requests.{Follows}
use Rattle.ob_http.proofs.RequestsLemmas.{follows}
use Rattle.ob_http.proofs.framer.Framer.drop_front.Goals as goal

pub returns-clause-next : goal.returns-clause-next
returns-clause-next c = λ stream requests request taken stands.
    subst (Follows stream requests request) (sym c.drop_bytes.ensures) (follows stream requests request c.args.len _ taken stands)
