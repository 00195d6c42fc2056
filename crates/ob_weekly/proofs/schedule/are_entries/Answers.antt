use Rattle.ob_weekly.specs.Schedules.{IsEntry}
use Rattle.ob_weekly.proofs.Lists.{below_none, below_more}
use Rattle.ob_weekly.proofs.schedule.are_entries.Goals as goal

pub loop-place-init : goal.loop-place-init
loop-place-init c = below_none IsEntry c.args.entries.now

pub loop-place-preserved : goal.loop-place-preserved
loop-place-preserved c = below_more IsEntry c.args.entries.now c.loop-place.place c.entry_at.result.now c.loop-place.invariant c.entry_at.ensures (c.is_entry.ensures.yes c.if-not-is_entry.false)
