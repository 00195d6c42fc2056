use Rattle.ob_site_laws.proofs.SiteHistories.{clients_hold}
use Rattle.ob_site_laws.proofs.watch_replay.Goals as goal

pub returns : goal.returns
returns c = clients_hold c.args.watch
