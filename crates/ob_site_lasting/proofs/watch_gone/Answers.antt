use Rattle.ob_site_lasting.specs.SiteLasting.{IsSiteRestartOf}
use Rattle.ob_site_lasting.proofs.SiteRuns.{restarts_keep_numbers, gone_over_restarts}
use Rattle.ob_site_lasting.proofs.watch_gone.Goals as goal

pub returns : goal.returns
returns c = gone_over_restarts IsSiteRestartOf restarts_keep_numbers c.args.watch
