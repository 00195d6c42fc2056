use Rattle.ob_site_lasting.proofs.SiteRecords.{site_done_again_further}
use Rattle.ob_site_lasting.proofs.done_again_further.Goals as goal

pub returns : goal.returns
returns c = site_done_again_further
