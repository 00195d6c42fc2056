use Rattle.ob_weekly.specs.Schedules.{IsWeekly}
use Rattle.ob_weekly.proofs.Lists.{Below}
use Rattle.ob_weekly.proofs.schedule.are_weekly.Given as goal

abbrev pub invariant-loop-place : goal.invariant-loop-place
invariant-loop-place l = Below IsWeekly l.fn.schedules l.place
