use Rattle.ob_kept.proofs.Restarts.{each_keeps}
use Rattle.ob_kept.proofs.laws.each_run_keeps_watches.Goals as goal

pub returns : goal.returns
returns c = each_keeps
