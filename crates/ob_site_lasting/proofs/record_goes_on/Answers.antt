use Rattle.ob_site_lasting.proofs.SiteRecords.{site_record_goes_on}
use Rattle.ob_site_lasting.proofs.record_goes_on.Goals as goal

pub returns : goal.returns
returns c = site_record_goes_on
