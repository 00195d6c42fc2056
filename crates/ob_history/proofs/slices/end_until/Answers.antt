use Rattle.ob_history.proofs.Order.{InOrder-left, InOrder-right, filter_yes}
use Rattle.ob_history.proofs.slices.end_until.Goals as goal

pub count_until-requires : goal.count_until-requires
count_until-requires c = InOrder-left _ c.args.back.now c.requires

pub count_until-requires-in-Some : goal.count_until-requires-in-Some
count_until-requires-in-Some c = InOrder-right c.args.front.now _ c.requires

pub returns-in-None-clause-count : goal.returns-in-None-clause-count
returns-in-None-clause-count c = rw c.in-None.is (filter_yes c.args.front.now c.args.back.now)
