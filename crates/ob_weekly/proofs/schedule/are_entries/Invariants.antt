use Rattle.ob_weekly.specs.Schedules.{IsEntry}
use Rattle.ob_weekly.proofs.Lists.{Below}
use Rattle.ob_weekly.proofs.schedule.are_entries.Given as goal

abbrev pub invariant-loop-place : goal.invariant-loop-place
invariant-loop-place l = Below IsEntry l.fn.entries l.place
