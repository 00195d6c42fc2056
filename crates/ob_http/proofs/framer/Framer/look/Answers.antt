use Rattle.ob_http.proofs.RequestsLemmas.{sees_next, sees_within, sees_no_memory}
use Rattle.ob_http.proofs.framer.Framer.look.Goals as goal

pub returns-clause-next : goal.returns-clause-next
returns-clause-next c = λ stream requests taken. sees_next stream requests _ _ taken c.front.ensures

pub returns-clause-within : goal.returns-clause-within
returns-clause-within c = sees_within _ _ c.front.ensures

pub returns-clause-lent : goal.returns-clause-lent
returns-clause-lent c = sees_no_memory _ _ c.front.ensures
