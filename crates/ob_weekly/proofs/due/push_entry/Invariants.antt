use Rattle.std.proofs.Common.{◌≡◌, ◌+◌, pos, ◌-ℤ◌, ◌≤ℤ◌}
use Rattle.std.specs.Prelude.{unsigned_abs}
use Rattle.jiff.specs.Words.{plain_zone}
use Rattle.jiff_core.specs.Calendar.{weekday_number}
use Rattle.ob_weekly.specs.Search.{UpToDay, IsDueOn}
use Rattle.ob_weekly.proofs.due.push_entry.Given as goal

abbrev pub invariant-loop-day : goal.invariant-loop-day
invariant-loop-day l = record {
  from : l.fn.span.first ≤ℤ l.day;
  fits : l.day ≤ℤ pos 2_932_900;
  weekday : weekday_number l.day + 1 ≡ l.fn.entry.day;
  added : UpToDay (IsDueOn (plain_zone l.fn.zone) l.fn.place l.fn.entry l.fn.span.low l.fn.span.to) l.fn.dues.items l.fn.span.first l.day l.dues.items;
}

abbrev pub decreases-loop-day : goal.decreases-loop-day
decreases-loop-day l = unsigned_abs (pos 2_932_901 -ℤ l.day)
