use Rattle.ob_kept.proofs.FrontLemmas.{keeps_fronts}
use Rattle.ob_kept.proofs.laws.each_front_is_kept.Goals as goal

pub returns : goal.returns
returns c = keeps_fronts
