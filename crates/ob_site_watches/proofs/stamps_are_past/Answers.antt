use Rattle.ob_site_watches.proofs.Stamping.{stamps_are_past}
use Rattle.ob_site_watches.proofs.stamps_are_past.Goals as goal

pub returns : goal.returns
returns c = stamps_are_past
