use Rattle.ob_site_laws.proofs.SiteHistories.{stays}
use Rattle.ob_site_laws.proofs.sound_stays.Goals as goal

pub returns : goal.returns
returns c = stays
