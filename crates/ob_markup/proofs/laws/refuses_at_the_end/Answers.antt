use Rattle.ob_markup.proofs.Answered.{refuses_at_the_end}
use Rattle.ob_markup.proofs.laws.refuses_at_the_end.Goals as goal

pub returns : goal.returns
returns c = refuses_at_the_end c.judged_once.ensures
