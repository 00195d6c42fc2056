use Rattle.ob_watching.specs.Small.{small}
use Rattle.ob_lasting.proofs.Again.{done_again}
use Rattle.ob_lasting.proofs.SmallApart.{small_apart}
use Rattle.ob_lasting.proofs.done_again.Goals as goal

pub returns : goal.returns
returns c = done_again small small_apart
