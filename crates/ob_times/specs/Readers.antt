-- What the readers of dates, times of day, instants and spans answer: each for all bytes.
use Rattle.std.specs.Prelude.{◌≡◌, ℕ, List, Result}
use Rattle.jiff.specs.Types.{Date}
use Rattle.ob_spelling.specs.White.{trim}
use Rattle.ob_spelling.specs.Reads.{ReadsAs}
use Rattle.ob_spelling.specs.declared.fault.ValueFault.{ValueFault}
use Rattle.ob_spelling.specs.declared.fault.ValueFault.TheVariants.{NotTime, Range}
use Rattle.ob_times.specs.Civil.{IsDay, IsDateOf}
use Rattle.ob_times.specs.CivilText.{IsDateText, IsTimeText}
use Rattle.ob_times.specs.Clock.{IsClock, nanos_of_day}
use Rattle.ob_times.specs.InstantText.{IsZonedText, IsZoned, IsInstantOf}
use Rattle.ob_times.specs.SpanText.{IsSpanText, FitsSpan, IsSpanOf}
use Rattle.ob_times.specs.Times.{Instant, Span}

-- the date that the bytes spell, white space at their ends left out
abbrev pub ReadsDate : List ℕ → Result Date ValueFault → Type 0
ReadsDate bytes answer = ReadsAs (IsDateText (trim bytes)) IsDay IsDateOf NotTime Range answer

-- the nanoseconds since midnight of the time of day that the bytes spell
abbrev pub ReadsTime : List ℕ → Result ℕ ValueFault → Type 0
ReadsTime bytes answer = ReadsAs (IsTimeText (trim bytes)) IsClock (λ c n. n ≡ nanos_of_day c) NotTime Range answer

-- the instant
abbrev pub ReadsAbstime : List ℕ → Result Instant ValueFault → Type 0
ReadsAbstime bytes answer = ReadsAs (IsZonedText (trim bytes)) IsZoned IsInstantOf NotTime Range answer

-- the span
abbrev pub ReadsReltime : List ℕ → Result Span ValueFault → Type 0
ReadsReltime bytes answer = ReadsAs (IsSpanText (trim bytes)) FitsSpan IsSpanOf NotTime Range answer
