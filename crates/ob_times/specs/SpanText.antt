-- How spans are spelled.
use Rattle.std.specs.Prelude.{◌≡◌, ℕ, ◌+◌, ◌*◌, ◌<◌, ◌≤◌, ◌⊎◌, Bool, ◌&&◌, not, ◌==◌, if◌then◌else◌, List, [], ◌∷◌, ◌++◌, length, drop, slice_index}
use Rattle.ob_spelling.specs.Numeral.{IsNumeral, number, capped, signed}
use Rattle.ob_spelling.specs.DigitRun.{digits_front, after_digits}
use Rattle.ob_spelling.specs.Places.{minus}
use Rattle.ob_times.specs.declared.reltime.SpanText.{SpanText}
use Rattle.ob_times.specs.declared.reltime.ClockPart.{ClockPart}
use Rattle.ob_times.specs.declared.reltime.Ahead.{Ahead}
use Rattle.ob_times.specs.CivilText.{IsFraction}
use Rattle.ob_times.specs.Times.{Span}

-- digits and a letter
pub record IsAmountText (letter : ℕ) (text : List ℕ) (n : ℕ) : Type 0 where
  pub digits : List ℕ
  pub numeral : IsNumeral digits
  pub text_is : text ≡ digits ++ letter ∷ []
  pub value : n ≡ number digits

-- an amount of a unit: nothing for none, or digits and the unit's letter
abbrev pub IsAmount : ℕ → List ℕ → ℕ → Type 0
IsAmount letter text n = ((text ≡ []) × (n ≡ 0)) ⊎ IsAmountText letter text n

-- digits, a fraction and S
pub record IsSecondsText (text : List ℕ) (seconds nanos : ℕ) : Type 0 where
  pub digits : List ℕ
  pub fraction : List ℕ
  pub numeral : IsNumeral digits
  pub is_fraction : IsFraction fraction nanos
  pub text_is : text ≡ digits ++ (fraction ++ 83 ∷ [])
  pub value : seconds ≡ number digits

-- seconds: nothing for none, or digits, a fraction and S
abbrev pub IsSeconds : List ℕ → ℕ → ℕ → Type 0
IsSeconds text seconds nanos = ((text ≡ []) × (seconds ≡ 0) × (nanos ≡ 0)) ⊎ IsSecondsText text seconds nanos

-- T, and hours, minutes and seconds, of which there is one at least
pub record IsClockText (text : List ℕ) (p : ClockPart) : Type 0 where
  pub hours : List ℕ
  pub minutes : List ℕ
  pub seconds : List ℕ
  pub is_hours : IsAmount 72 hours p.hours
  pub is_minutes : IsAmount 77 minutes p.minutes
  pub is_seconds : IsSeconds seconds p.seconds p.nanos
  pub some : 0 < length (hours ++ (minutes ++ seconds))
  pub text_is : text ≡ 84 ∷ (hours ++ (minutes ++ seconds))

-- the part of hours, minutes and seconds, or nothing
abbrev pub IsClockPart : List ℕ → ClockPart → Type 0
IsClockPart text p = ((text ≡ []) × (p ≡ record { hours = 0; minutes = 0; seconds = 0; nanos = 0 })) ⊎ IsClockText text p

-- a minus for a negative span, P, years, months and days, and the part behind T; one at least
pub record IsSpanText (text : List ℕ) (p : SpanText) : Type 0 where
  pub years : List ℕ
  pub months : List ℕ
  pub days : List ℕ
  pub clock : List ℕ
  pub is_years : IsAmount 89 years p.years
  pub is_months : IsAmount 77 months p.months
  pub is_days : IsAmount 68 days p.days
  pub is_clock : IsClockPart clock p.clock
  pub some : 0 < length (years ++ (months ++ (days ++ clock)))
  pub text_is : text ≡ minus p.negative ++ 80 ∷ (years ++ (months ++ (days ++ clock)))

-- a year has 12 months
abbrev pub months_of : SpanText → ℕ
months_of p = p.years * 12 + p.months

-- a day has 86,400 seconds
abbrev pub seconds_of : SpanText → ℕ
seconds_of p = p.days * 86_400 + p.clock.hours * 3_600 + p.clock.minutes * 60 + p.clock.seconds

abbrev pub nanos_of : SpanText → ℕ
nanos_of p = seconds_of p * 1_000_000_000 + p.clock.nanos

-- months and nanoseconds are in range
abbrev pub FitsSpan : SpanText → Type 0
FitsSpan p = (months_of p ≤ 120_000) × (nanos_of p ≤ 9_223_372_036_854_775_807)

-- the span that the parts are
abbrev pub IsSpanOf : SpanText → Span → Type 0
IsSpanOf p s = s ≡ record { months = signed p.negative (months_of p); nanos = signed p.negative (nanos_of p) }

-- a text spells that span
abbrev pub IsSpanSpelled : List ℕ → Span → Type 0
IsSpanSpelled text s = (p : SpanText) × IsSpanText text p × FitsSpan p × IsSpanOf p s

-- the same amounts, where one that is too large for any span is held as 10 ^ 19
pub record IsCappedClock (p held : ClockPart) : Type 0 where
  pub hours : held.hours ≡ capped p.hours
  pub minutes : held.minutes ≡ capped p.minutes
  pub seconds : held.seconds ≡ capped p.seconds
  pub nanos : held.nanos ≡ p.nanos
  pub nanos_below : p.nanos < 1_000_000_000

pub record IsCapped (p held : SpanText) : Type 0 where
  pub negative : held.negative ≡ p.negative
  pub years : held.years ≡ capped p.years
  pub months : held.months ≡ capped p.months
  pub days : held.days ≡ capped p.days
  pub clock : IsCappedClock p.clock held.clock

-- whether a text begins with digits and the letter, their number, and what follows
abbrev pub begins_amount : ℕ → List ℕ → Bool
begins_amount letter text = not (length (digits_front text) == 0) && (slice_index (after_digits text) 0 == letter)

unfoldable pub amount_at : ℕ → List ℕ → ℕ
amount_at letter text = if begins_amount letter text then number (digits_front text) else 0

unfoldable pub after_amount : ℕ → List ℕ → List ℕ
after_amount letter text = if begins_amount letter text then drop 1 (after_digits text) else text

-- the number of the digits at the front, where one that is too large for any span is held as 10 ^ 19, and
-- what follows them
pub record IsRead (a : Ahead) : Type 0 where
  pub number_is : a.number ≡ capped (number (digits_front a.text.now))
  pub rest_is : a.rest.now ≡ after_digits a.text.now
