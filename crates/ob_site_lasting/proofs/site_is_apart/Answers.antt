use Rattle.ob_site_lasting.proofs.SiteRecords.{apart}
use Rattle.ob_site_lasting.proofs.site_is_apart.Goals as goal

pub returns : goal.returns
returns c = apart
