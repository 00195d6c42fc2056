use Rattle.ob_site_laws.proofs.SiteHistories.{clients_hold_all}
use Rattle.ob_site_laws.proofs.watch_replay_whole.Goals as goal

pub returns : goal.returns
returns c = clients_hold_all c.args.watch
