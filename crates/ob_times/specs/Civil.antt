-- Dates.
use Rattle.std.specs.Prelude.{ℕ, List, ℤ, pos, ◌≤ℤ◌}
pub use Rattle.jiff.specs.Types.{Date}
pub use Rattle.jiff.specs.Words.{IsDate, IsYmd, epoch_day}
use Rattle.ob_times.specs.declared.civil.Day.{Day}
use Rattle.ob_times.specs.CivilText.{IsDateText}

-- the calendar has the date, and its year is at least 1
abbrev pub IsCivil : ℤ → ℤ → ℤ → Type 0
IsCivil year month day = (pos 1 ≤ℤ year) × IsDate year month day

-- the same, of a day that a text writes
abbrev pub IsDay : Day → Type 0
IsDay d = IsCivil (pos d.year) (pos d.month) (pos d.day)

-- the date of that day
abbrev pub IsDateOf : Day → Date → Type 0
IsDateOf d date = IsYmd (pos d.year) (pos d.month) (pos d.day) date

-- a text spells that date
abbrev pub IsDateSpelled : List ℕ → Date → Type 0
IsDateSpelled text date = (d : Day) × IsDateText text d × IsDay d × IsDateOf d date
