-- The one text that is printed of a date, a time of day, an instant or a span.
use Rattle.std.specs.Prelude.{ℕ, ◌/◌, ◌%◌, ◌||◌, ◌&&◌, not, ◌==◌, List, [], ◌∷◌, ◌++◌, ℤ, pos, ◌-ℤ◌, if◌then◌else◌, unsigned_abs, decimal}
use Rattle.std.specs.Int.{is_negative}
use Rattle.jiff.specs.Types.{Date}
use Rattle.ob_spelling.specs.Places.{two_digits, fraction_text, minus}
use Rattle.ob_times.specs.CivilText.{date_text, clock_text}
use Rattle.ob_times.specs.InstantText.{zone_mark}
use Rattle.ob_times.specs.Calendar.{year_of, month_of, day_of}
use Rattle.ob_times.specs.Times.{Instant, Span, since_year_1}

-- YYYY-MM-DD
abbrev pub civil_text : Date → List ℕ
civil_text date = date_text (unsigned_abs date.year) date.month date.day

-- hh:mm:ss of the second of the day, and the fraction without zeros at its end
abbrev pub time_text : ℕ → ℕ → List ℕ
time_text second nanos = clock_text (second / 3_600) (second / 60 % 60) (second % 60) (fraction_text 9 nanos)

-- Z for no offset, or its sign, hours and minutes
abbrev pub zone_text : ℤ → List ℕ
zone_text offset =
    if unsigned_abs offset == 0 then 90 ∷ []
    else zone_mark (is_negative offset) ∷ (two_digits (unsigned_abs offset / 60) ++ 58 ∷ [] ++ two_digits (unsigned_abs offset % 60))

-- YYYY-MM-DD of the day with that number
abbrev pub day_text : ℤ → List ℕ
day_text day = date_text (year_of day) (month_of day) (day_of day)

-- the day, counted from 1970-01-01, that the second lies in, counted from 0001-01-01T00:00:00
abbrev pub day_at : ℕ → ℤ
day_at second = pos (second / 86_400) -ℤ pos 719_162

-- the date and the time of day that a clock at the offset shows, and the offset
abbrev pub instant_text : Instant → List ℕ
instant_text a =
    day_text (day_at (since_year_1 a))
    ++ 84 ∷ (time_text (since_year_1 a % 86_400) a.nanos ++ zone_text a.offset)

-- months, where there are any
abbrev pub months_text : ℕ → List ℕ
months_text months = if months == 0 then [] else (decimal months ++ 77 ∷ [])

-- T and seconds, where there are any, or nothing else to print
abbrev pub seconds_text : ℕ → ℕ → List ℕ
seconds_text months nanos =
    if (nanos == 0) && not (months == 0) then []
    else 84 ∷ (decimal (nanos / 1_000_000_000) ++ (fraction_text 9 (nanos % 1_000_000_000) ++ 83 ∷ []))

-- a minus for a negative span, P, months and seconds
abbrev pub span_text : Span → List ℕ
span_text s =
    minus (is_negative s.months || is_negative s.nanos)
    ++ 80 ∷ (months_text (unsigned_abs s.months) ++ seconds_text (unsigned_abs s.months) (unsigned_abs s.nanos))
