use Rattle.std.proofs.Common.{◌∙◌}
use Rattle.ob_site_state.specs.Kept.{entry_of}
use Rattle.ob_plain_state.proofs.Copies.{rolled_entry, rolled-all, whole}
use Rattle.ob_plain_state.proofs.Keeping.{counted_at}
use Rattle.ob_site_open.specs.Logs.{CanStand}
use Rattle.ob_site_open.proofs.Counting.{rolled_at}
use Rattle.ob_site_open.proofs.logs.logs_of.Goals as goal

pub log_of-requires-clause-counted : goal.log_of-requires-clause-counted
log_of-requires-clause-counted c = counted_at c.args.opened.now c.loop-entry.entry-index c.entry-item.result c.loop-entry-test.true c.entry-item.is c.requires.counted

pub log_of-requires-clause-stands : goal.log_of-requires-clause-stands
log_of-requires-clause-stands c = rolled_at CanStand c.args.opened.now c.loop-entry.entry-index c.entry-item.result c.loop-entry-test.true c.entry-item.is c.requires.stand

pub returns-clause-logs : goal.returns-clause-logs
returns-clause-logs c =
    whole rolled_entry entry_of c.loop-entry.logs.items c.args.opened.now c.loop-entry.entry-index c.loop-entry-test.false c.loop-entry.invariant.0 ∙ rolled-all c.args.opened.now
