use Rattle.ob_site_same.proofs.Slots.{slot_is}
use Rattle.ob_site_same.proofs.records.is_slot.Goals as goal

pub returns : goal.returns
returns c = slot_is c.same_slot.result c.args.slot.now c.args.other.now c.same_slot.ensures
