use Rattle.ob_history.proofs.Kept.{IsHistory-cut}
use Rattle.ob_history.proofs.log.Log.cut.Goals as goal

pub invariant_of-self : goal.invariant_of-self
invariant_of-self c = rw c.keep_first.ensures.kept (IsHistory-cut _ _ c.args.len c.self.invariant)
