use Rattle.ob_site_lasting.specs.SiteLasting.{IsSiteRestartOf}
use Rattle.ob_site_lasting.proofs.SiteRuns.{restarts_keep_numbers, each_run_keeps_watches}
use Rattle.ob_site_lasting.proofs.each_run_keeps_watches.Goals as goal

pub returns : goal.returns
returns c = each_run_keeps_watches IsSiteRestartOf restarts_keep_numbers
