use Rattle.ob_site_laws.proofs.SiteHistories.{clients_hold_each}
use Rattle.ob_site_laws.proofs.watch_replay_each.Goals as goal

pub returns : goal.returns
returns c = clients_hold_each c.args.watch
