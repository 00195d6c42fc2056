use Rattle.ob_history.proofs.Kept.{IsHistory-rolled}
use Rattle.ob_history.proofs.log.Log.settle.Goals as goal

pub invariant_of-self : goal.invariant_of-self
invariant_of-self c = rw (c.keep_newest.ensures.kept, c.keep_newest.ensures.count) (IsHistory-rolled _ _ c.in-Some.capacity c.self.invariant)
