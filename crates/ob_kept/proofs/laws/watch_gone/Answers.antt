use Rattle.ob_kept.proofs.Restarts.{gone_later}
use Rattle.ob_kept.proofs.laws.watch_gone.Goals as goal

pub returns : goal.returns
returns c = gone_later c.args.watch
