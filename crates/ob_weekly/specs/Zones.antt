-- Clocks of zones, and when a weekly entry fires under one.
use Rattle.std.specs.Prelude.{◌≡◌, ◌+◌, ◌*◌, ℤ, pos, ◌*ℤ◌, ◌≤ℤ◌}
use Rattle.jiff.specs.Types.{DateTime, TimeZone}
use Rattle.jiff.specs.Words.{epoch_day, weekday_of, time_nanos, picked_instant}
use Rattle.ob_weekly.specs.declared.schedule.Entry.{Entry}

-- the number of 9999-12-28, the last date on which an entry fires: at every offset its day is over before instants end
abbrev pub last_day : ℤ
last_day = pos 2_932_893

-- The entry fires at this instant, in milliseconds from 1970-01-01T00:00:00Z: it is the instant of the entry's time of day on a
-- civil date of its weekday. A time that the zone's clock jumps over, or shows twice, is read with the offset before the change;
-- so it has one instant, and of two the earlier one.
pub record FiresAt (zone : TimeZone) (e : Entry) (at : ℤ) : Type 0 where
  pub civil : DateTime
  pub weekday : weekday_of civil.date + 1 ≡ e.day
  pub time : time_nanos civil.time ≡ e.at_ms * 1_000_000
  pub last : epoch_day civil.date ≤ℤ last_day
  pub instant : at *ℤ pos 1_000_000 ≡ picked_instant zone civil
