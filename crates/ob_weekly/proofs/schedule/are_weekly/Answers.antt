use Rattle.ob_weekly.specs.Schedules.{IsWeekly}
use Rattle.ob_weekly.proofs.Lists.{below_none, below_more}
use Rattle.ob_weekly.proofs.schedule.are_weekly.Goals as goal

pub loop-place-init : goal.loop-place-init
loop-place-init c = below_none IsWeekly c.args.schedules.now

pub loop-place-preserved : goal.loop-place-preserved
loop-place-preserved c = below_more IsWeekly c.args.schedules.now c.loop-place.place c.schedule_at.result.now c.loop-place.invariant c.schedule_at.ensures (c.is_weekly.ensures.yes c.if-not-is_weekly.false)
