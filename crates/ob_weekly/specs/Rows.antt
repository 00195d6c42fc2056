-- When entries fire, by a calendar: in New York's zone, whose rule is EST5EDT,M3.2.0,M11.1.0, and in a zone of one offset.
use Rattle.std.specs.Prelude.{ℕ, pos, neg_ℤ, IsTrue, Some, None}
use Rattle.jiff_core.specs.Calendar.{IsWithin}
use Rattle.jiff_core.specs.Timestamp.{IsOffsetSeconds}
use Rattle.jiff.specs.Types.{TimeZone, Posix}
use Rattle.jiff_tz.specs.declared.abbreviation.Abbreviation.{Abbreviation}
use Rattle.jiff_tz.specs.PosixDay.{is_rule_day}
use Rattle.jiff_tz.specs.declared.posix.Day.TheVariants.{WeekdayOfMonth}
use Rattle.ob_object.specs.declared.head.Slot.{Slot}
use Rattle.ob_weekly.specs.declared.schedule.Entry.{Entry}
use Rattle.ob_weekly.specs.Zones.{FiresAt}

-- the parts of the rules are in their ranges
pub record InRange : Type 0 where
  pub five_west : IsOffsetSeconds (neg_ℤ (pos 18_000))
  pub four_west : IsOffsetSeconds (neg_ℤ (pos 14_400))
  pub one_east : IsOffsetSeconds (pos 3_600)
  pub march : IsTrue (is_rule_day (WeekdayOfMonth 3 2 0))
  pub november : IsTrue (is_rule_day (WeekdayOfMonth 11 1 0))
  pub two : IsWithin 604_799 (pos 7_200)

-- five hours behind UTC, and four from 02:00 on the second Sunday of March to 02:00 on the first of November
abbrev pub new_york : InRange → Abbreviation → Abbreviation → TimeZone
new_york r std dst = Posix (record {
  std_abbrev = std;
  std_offset = record { seconds = neg_ℤ (pos 18_000); in_range = r.five_west };
  dst = Some (record {
    «abbrev» = dst;
    offset = record { seconds = neg_ℤ (pos 14_400); in_range = r.four_west };
    rule = record {
      start = record { date = WeekdayOfMonth 3 2 0; time = pos 7_200; date_in = r.march; time_in = r.two };
      end = record { date = WeekdayOfMonth 11 1 0; time = pos 7_200; date_in = r.november; time_in = r.two };
    };
  });
})

-- one hour ahead of UTC
abbrev pub one_ahead : InRange → Abbreviation → TimeZone
one_ahead r std = Posix (record {
  std_abbrev = std;
  std_offset = record { seconds = pos 3_600; in_range = r.one_east };
  dst = None;
})

abbrev pub entry : ℕ → ℕ → Slot → Entry
entry day at_ms slot = record { day = day; at_ms = at_ms; slot = slot }

-- Monday 2026-01-05, 06:00 in New York is 11:00:00Z
abbrev pub Winter : Type 0
Winter = (r : InRange) (std dst : Abbreviation) (slot : Slot) → FiresAt (new_york r std dst) (entry 1 21_600_000 slot) (pos 1_767_610_800_000)

-- Sunday 2026-03-08 has no 02:30: it is read with the offset before, so it is 07:30:00Z
abbrev pub Gap : Type 0
Gap = (r : InRange) (std dst : Abbreviation) (slot : Slot) → FiresAt (new_york r std dst) (entry 7 9_000_000 slot) (pos 1_772_955_000_000)

-- Sunday 2026-11-01 has 01:30 twice: the first is 05:30:00Z
abbrev pub Fold : Type 0
Fold = (r : InRange) (std dst : Abbreviation) (slot : Slot) → FiresAt (new_york r std dst) (entry 7 5_400_000 slot) (pos 1_793_511_000_000)

-- Thursday 1970-01-01, 00:30 an hour ahead of UTC is half an hour before instants are counted from
abbrev pub Before1970 : Type 0
Before1970 = (r : InRange) (std : Abbreviation) (slot : Slot) → FiresAt (one_ahead r std) (entry 4 1_800_000 slot) (neg_ℤ (pos 1_800_000))

-- Tuesday 9999-12-28, the last date, to its last millisecond
abbrev pub LastDate : Type 0
LastDate = (r : InRange) (std : Abbreviation) (slot : Slot) → FiresAt (one_ahead r std) (entry 2 86_399_999 slot) (pos 253_402_037_999_999)
