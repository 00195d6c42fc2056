use Rattle.std.proofs.Common.{◌∙◌}
use Rattle.ob_site_open.proofs.Counting.{one_capacity, all_capacities}
use Rattle.ob_site_open.proofs.logs.capacities_of.Goals as goal

pub loop-entry-preserved : goal.loop-entry-preserved
loop-entry-preserved c =
    c.in_ok-push.ensures.items
    ∙ one_capacity c.loop-entry.made.items c.args.opened.now c.loop-entry.entry-index c.entry-item.result c.loop-entry-test.true c.entry-item.is c.loop-entry.invariant

pub returns : goal.returns
returns c = all_capacities c.loop-entry.made.items c.args.opened.now c.loop-entry.entry-index c.loop-entry-test.false c.loop-entry.invariant
