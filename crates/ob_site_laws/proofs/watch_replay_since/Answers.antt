use Rattle.ob_site_laws.proofs.SiteHistories.{clients_hold_all_since}
use Rattle.ob_site_laws.proofs.watch_replay_since.Goals as goal

pub returns : goal.returns
returns c = clients_hold_all_since c.args.watch
