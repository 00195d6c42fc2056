use Rattle.ob_watching.specs.Small.{small}
use Rattle.ob_lasting.proofs.Again.{done_again_further}
use Rattle.ob_lasting.proofs.SmallApart.{small_apart}
use Rattle.ob_lasting.proofs.done_again_further.Goals as goal

pub returns : goal.returns
returns c = done_again_further small small_apart
