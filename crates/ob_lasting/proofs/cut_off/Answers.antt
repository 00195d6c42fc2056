use Rattle.ob_watching.specs.Small.{small}
use Rattle.ob_lasting.proofs.Gone.{cut_off}
use Rattle.ob_lasting.proofs.cut_off.Goals as goal

pub returns : goal.returns
returns c = cut_off small
