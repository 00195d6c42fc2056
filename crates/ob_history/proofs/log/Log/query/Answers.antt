use Rattle.ob_history.proofs.Numbering.{numbered_within}
use Rattle.ob_history.proofs.log.Log.query.Goals as goal

pub returns-clause-value : goal.returns-clause-value
returns-clause-value c =
    numbered_within c.args.query.now _ _ _ _ _ _ _ c.unwrap_or.ensures c.from_number-number.ensures.in_order c.from_number-number.ensures.number c.from_number-number.ensures.value c.asked_of-early.ensures.before c.asked_of-early.ensures.value
