use Rattle.ob_watching.specs.Small.{small}
use Rattle.ob_lasting.proofs.Replaying.{record_lasts}
use Rattle.ob_lasting.proofs.SmallApart.{small_apart}
use Rattle.ob_lasting.proofs.record_lasts.Goals as goal

pub returns : goal.returns
returns c = record_lasts small small_apart
