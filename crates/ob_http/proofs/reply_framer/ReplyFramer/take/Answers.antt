use Rattle.ob_http.proofs.RepliesLemmas.{takes_next}
use Rattle.ob_http.proofs.reply_framer.ReplyFramer.take.Goals as goal

pub returns-clause-next : goal.returns-clause-next
returns-clause-next c = λ stream replies taken. takes_next stream replies _ _ _ taken c.take_front.ensures
