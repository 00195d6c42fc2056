use Rattle.ob_shown_laws.proofs.Bridging.{slot_is_set}
use Rattle.ob_shown_laws.proofs.slot_is_set.Goals as goal

pub returns : goal.returns
returns c = slot_is_set
