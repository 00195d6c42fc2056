use Rattle.ob_site_lasting.proofs.SiteRecords.{site_record_lasts}
use Rattle.ob_site_lasting.proofs.record_lasts.Goals as goal

pub returns : goal.returns
returns c = site_record_lasts
