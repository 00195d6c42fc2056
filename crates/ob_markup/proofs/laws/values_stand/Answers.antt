use Rattle.ob_markup.proofs.Values.{values_stand}
use Rattle.ob_markup.proofs.laws.values_stand.Goals as goal

pub returns : goal.returns
returns c = values_stand
