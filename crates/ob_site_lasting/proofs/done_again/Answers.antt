use Rattle.ob_site_lasting.proofs.SiteRecords.{site_done_again}
use Rattle.ob_site_lasting.proofs.done_again.Goals as goal

pub returns : goal.returns
returns c = site_done_again
