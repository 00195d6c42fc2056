use Rattle.ob_site_lasting.specs.SiteLasting.{IsSiteRestartOf}
use Rattle.ob_site_lasting.proofs.SiteRuns.{site_cut_off}
use Rattle.ob_site_lasting.proofs.cut_off.Goals as goal

pub returns : goal.returns
returns c = site_cut_off IsSiteRestartOf
