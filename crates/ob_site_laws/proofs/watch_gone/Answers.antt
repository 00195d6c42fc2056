use Rattle.ob_site_laws.proofs.SiteHistories.{gone_for_good}
use Rattle.ob_site_laws.proofs.watch_gone.Goals as goal

pub returns : goal.returns
returns c = gone_for_good c.args.watch
