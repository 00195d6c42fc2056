use Rattle.ob_tree.proofs.Lasting.{last_touches_stamp}
use Rattle.ob_tree.proofs.laws.last_touches_stamp.Goals as goal

pub returns : goal.returns
returns c = last_touches_stamp
