use Rattle.std.proofs.Common.{subst, sym}
use Rattle.ob_history.specs.Records.{InOrder}
use Rattle.ob_history.proofs.Asked.{InOrder-part}
use Rattle.ob_history.proofs.log.Log.from_number.Goals as goal

pub returns-clause-in_order : goal.returns-clause-in_order
returns-clause-in_order c = subst InOrder (sym c.between.ensures) (InOrder-part _ _ _ c.slices.ensures.in_order)
