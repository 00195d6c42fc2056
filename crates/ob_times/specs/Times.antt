-- Instants and spans of time.
use Rattle.std.specs.Prelude.{ℕ, ◌*◌, ◌/◌, ◌%◌, ◌<◌, ◌≤◌, ◌⊎◌, ℤ, pos, neg_ℤ, ◌+ℤ◌, ◌-ℤ◌, ◌*ℤ◌, ◌≤ℤ◌, unsigned_abs}

-- an instant, as seconds from 1970-01-01T00:00:00Z and nanoseconds, and an offset in minutes
pub record Instant : Type 0 where
  pub seconds : ℤ
  pub nanos : ℕ
  pub offset : ℤ

-- the seconds that a clock at the offset shows
abbrev pub local_seconds : Instant → ℤ
local_seconds a = a.seconds +ℤ (a.offset *ℤ pos 60)

-- the instant alone, as nanoseconds from 1970-01-01T00:00:00Z
abbrev pub instant : Instant → ℤ
instant a = (a.seconds *ℤ pos 1_000_000_000) +ℤ pos a.nanos

-- the seconds that a clock at the offset has shown since its year 1 began
abbrev pub since_year_1 : Instant → ℕ
since_year_1 a = unsigned_abs (local_seconds a +ℤ pos 62_135_596_800)

-- the offset is at most 14 hours, and the local year is from 1 to 9999
pub record IsInstant (a : Instant) : Type 0 where
  pub nanos_below : a.nanos < 1_000_000_000
  pub offset_low : neg_ℤ (pos 840) ≤ℤ a.offset
  pub offset_high : a.offset ≤ℤ pos 840
  pub from_year_1 : neg_ℤ (pos 62_135_596_800) ≤ℤ local_seconds a
  pub to_year_9999 : local_seconds a ≤ℤ pos 253_402_300_799

-- months, and nanoseconds
pub record Span : Type 0 where
  pub months : ℤ
  pub nanos : ℤ

-- a span's length where each month has 30 days
abbrev pub span_length : Span → ℤ
span_length s = (s.months *ℤ pos 2_592_000_000_000_000) +ℤ s.nanos

-- months and nanoseconds are in range, and not of opposite signs
pub record IsSpan (s : Span) : Type 0 where
  pub months_low : neg_ℤ (pos 120_000) ≤ℤ s.months
  pub months_high : s.months ≤ℤ pos 120_000
  pub nanos_low : neg_ℤ (pos 9_223_372_036_854_775_807) ≤ℤ s.nanos
  pub signs : ((pos 0 ≤ℤ s.months) × (pos 0 ≤ℤ s.nanos)) ⊎ ((s.months ≤ℤ pos 0) × (s.nanos ≤ℤ pos 0))

-- the instant at which a clock at the offset shows that day, counted from 1970-01-01, and that second of it
abbrev pub at_clock : ℤ → ℕ → ℕ → ℤ → Instant
at_clock day second nanos offset = record { seconds = ((day *ℤ pos 86_400) +ℤ pos second) -ℤ (offset *ℤ pos 60); nanos = nanos; offset = offset }

-- so many milliseconds after 1970 began at UTC, with no offset
abbrev pub moment_instant : ℕ → Instant
moment_instant ms = record { seconds = pos (ms / 1_000); nanos = ms % 1_000 * 1_000_000; offset = pos 0 }

-- a number of milliseconds from 1970 on, up to the end of the year 9999
abbrev pub IsMoment : ℕ → Type 0
IsMoment ms = ms ≤ 253_402_300_799_999
