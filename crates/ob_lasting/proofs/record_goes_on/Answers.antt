use Rattle.ob_watching.specs.Small.{small}
use Rattle.ob_lasting.proofs.Replaying.{record_goes_on}
use Rattle.ob_lasting.proofs.SmallApart.{small_apart}
use Rattle.ob_lasting.proofs.record_goes_on.Goals as goal

pub returns : goal.returns
returns c = record_goes_on small small_apart
