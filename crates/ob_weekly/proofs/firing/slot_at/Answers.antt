use Rattle.std.proofs.Common.{refl}
use Rattle.ob_weekly.proofs.firing.slot_at.Goals as goal

pub returns : goal.returns
returns c = (c.entry_at-entry.result.now, c.entry_at-entry.ensures, refl)
