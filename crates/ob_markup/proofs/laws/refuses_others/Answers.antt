use Rattle.ob_markup.proofs.Answered.{refuses_others}
use Rattle.ob_markup.proofs.laws.refuses_others.Goals as goal

pub returns : goal.returns
returns c = refuses_others c.judged_once.ensures
