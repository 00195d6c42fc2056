use Rattle.ob_http.proofs.RequestsLemmas.{takes_next, takes_size, takes_shorter}
use Rattle.ob_http.proofs.framer.Framer.take.Goals as goal

pub returns-clause-next : goal.returns-clause-next
returns-clause-next c = λ stream requests taken. takes_next stream requests _ _ _ taken c.take_front.ensures

pub returns-clause-size : goal.returns-clause-size
returns-clause-size c = takes_size _ _ _ c.take_front.ensures

pub returns-clause-shorter : goal.returns-clause-shorter
returns-clause-shorter c = takes_shorter _ _ _ c.take_front.ensures
