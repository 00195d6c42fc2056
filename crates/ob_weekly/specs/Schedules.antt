-- What schedules are.
use Rattle.std.specs.Prelude.{◌<◌, ◌≤◌, length}
use Rattle.std.specs.List.{All}
use Rattle.ob_weekly.specs.declared.schedule.Entry.{Entry}
use Rattle.ob_weekly.specs.declared.schedule.Schedule.{Schedule}

-- a day of the week, and a time that a day has
pub record IsEntry (e : Entry) : Type 0 where
  pub day_from : 1 ≤ e.day
  pub day_to : e.day ≤ 7
  pub time : e.at_ms < 86_400_000

-- from 1 to 100 entries
pub record IsWeekly (s : Schedule) : Type 0 where
  pub some : 1 ≤ length s.entries.items
  pub few : length s.entries.items ≤ 100
  pub entries : All IsEntry s.entries.items
