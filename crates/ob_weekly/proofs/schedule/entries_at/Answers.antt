use Rattle.std.proofs.Common.{sym, subst, length, ◌≤◌}
use Rattle.std.specs.List.{All}
use Rattle.ob_weekly.specs.Schedules.{IsEntry, IsWeekly}
use Rattle.ob_weekly.proofs.Lists.{at_place}
use Rattle.ob_weekly.proofs.schedule.entries_at.Goals as goal

weekly : (c : goal.After-deref) → IsWeekly c.schedule_at-schedule.result.now
weekly c = at_place IsWeekly c.args.schedules.now c.args.place c.schedule_at-schedule.result.now c.requires.weekly c.schedule_at-schedule.ensures

pub returns-clause-is : goal.returns-clause-is
returns-clause-is c = (c.schedule_at-schedule.result.now, c.schedule_at-schedule.ensures, c.deref.ensures.value)

pub returns-clause-some : goal.returns-clause-some
returns-clause-some c = subst (λ es. 1 ≤ length es) (sym c.deref.ensures.value) (weekly c).some

pub returns-clause-few : goal.returns-clause-few
returns-clause-few c = subst (λ es. length es ≤ 100) (sym c.deref.ensures.value) (weekly c).few

pub returns-clause-each : goal.returns-clause-each
returns-clause-each c = subst (All IsEntry) (sym c.deref.ensures.value) (weekly c).entries
