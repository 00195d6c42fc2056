use Rattle.ob_markup.proofs.Answered.{asks_for_more}
use Rattle.ob_markup.proofs.laws.asks_for_more.Goals as goal

pub returns : goal.returns
returns c = asks_for_more c.judged_once.ensures
