use Rattle.std.proofs.Common.{◌≡◌, map, take}
use Rattle.ob_schedule.specs.Weeks.{week, week_of}
use Rattle.ob_schedule.proofs.read.schedules_of.Given as goal

abbrev pub invariant-loop-schedule : goal.invariant-loop-schedule
invariant-loop-schedule l = map week l.made.items ≡ map week_of (take l.schedule-index l.schedules)
