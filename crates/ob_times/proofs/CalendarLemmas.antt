-- A date is the one that its day's number tells.
use Rattle.std.proofs.Common.{◌≡◌, ℕ, zero, suc, ◌<◌, ◌≤◌, Bool, true, false, ap, ◌∙◌, arith, inl, inr}
use Rattle.std.specs.Prelude.{ℤ, pos, ◌≤ℤ◌, ◌<ℤ◌, int_le, unsigned_abs}
use Rattle.std.proofs.lemmas.Bool.{cases_lt}
use Rattle.std.proofs.lemmas.Int.{ints}
use Rattle.jiff.specs.Types.{Date}
use Rattle.jiff.specs.Words.{epoch_day}
use Rattle.jiff_core.specs.Calendar.{days_from_civil}
use Rattle.jiff_core.proofs.CalendarLemmas.{day_count-lt_year, day_count-lt_month, day_count-day_of_year, days_from_civil-day_count}
use Rattle.jiff_core.proofs.DateLemmas.{civil, days_from_civil-day}
use Rattle.ob_times.specs.Calendar.{last_passing, has_begun, year_of, month_of, day_of}
use Rattle.ob_times.specs.CivilText.{date_text}
use Rattle.ob_times.specs.PrintedTimes.{civil_text, day_text}

le_test : (a b : ℤ) → a ≤ℤ b → int_le a b ≡ true
le_test a b h = grind (arith, ints)

lt_test : (a b : ℤ) → b <ℤ a → int_le a b ≡ false
lt_test a b h = grind (arith, ints)

last_is : (passes : ℕ → Bool) (n k : ℕ) → 0 < k → k ≤ n → passes k ≡ true → ((j : ℕ) → k < j → j ≤ n → passes j ≡ false) → last_passing passes n ≡ k
unfolding last_passing
last_is passes zero k some h here past = absurd (omega arith)
last_is passes (suc n) k some h here past =
    elim (cases_lt k (suc n)) [
      | inl below ↦ let fails : passes (suc n) ≡ false = past (suc n) below (omega arith) in
          rw fails (last_is passes n k some (omega arith) here (λ j more most. past j more (omega arith)))
      | inr all ↦
          let same : suc n ≡ k = omega arith in
          let passed : passes (suc n) ≡ true = ap passes same ∙ here in
          rw passed same
    ]

-- the first of a date's year, and of its month, is no later
year_begun : (d : Date) → days_from_civil d.year 1 1 ≤ℤ epoch_day d
year_begun d =
    let place = day_count-day_of_year d.year d.month d.day (civil d).2.0 in
    let some = (civil d).2.0 in
    let day = days_from_civil-day_count d.year d.month d.day in
    let first = days_from_civil-day_count d.year 1 1 in
    omega (arith, ints, place, day, first, some)

later_year : (d : Date) (year : ℕ) → unsigned_abs d.year < year → pos 1 ≤ℤ d.year → epoch_day d <ℤ days_from_civil (pos year) 1 1
later_year d year more h =
    let before = day_count-lt_year d.year d.month d.day (pos year) 1 1 (civil d) (omega arith) (omega (arith, ints)) in
    let day = days_from_civil-day_count d.year d.month d.day in
    let first = days_from_civil-day_count (pos year) 1 1 in
    omega (arith, ints, before, day, first)

later_month : (d : Date) (month : ℕ) → d.month < month → epoch_day d <ℤ days_from_civil d.year month 1
later_month d month more =
    let before = day_count-lt_month d.year d.month d.day month 1 (civil d) (omega arith) more in
    let day = days_from_civil-day_count d.year d.month d.day in
    let first = days_from_civil-day_count d.year month 1 in
    omega (arith, ints, before, day, first)

-- the parts of a date from year 1 on

year_tells : (d : Date) → pos 1 ≤ℤ d.year → year_of (epoch_day d) ≡ unsigned_abs d.year
unfolding year_of
year_tells d h =
    let high = d.year_in.1 in
    let same : pos (unsigned_abs d.year) ≡ d.year = omega (arith, ints) in
    let begun : days_from_civil (pos (unsigned_abs d.year)) 1 1 ≤ℤ epoch_day d = rw same (year_begun d) in
    last_is (λ year. has_begun year 1 (epoch_day d)) 9_999 (unsigned_abs d.year) (omega (arith, ints)) (omega (arith, ints))
    (le_test _ _ begun)
    (λ j more most. lt_test _ _ (later_year d j more h))

month_begun : (d : Date) → days_from_civil d.year d.month 1 ≤ℤ epoch_day d
month_begun d =
    let some = (civil d).2.0 in
    let e = days_from_civil-day d.year d.month d.day 1 some (omega arith) in
    omega (arith, ints, e, some)

month_tells : (d : Date) → pos 1 ≤ℤ d.year → month_of (epoch_day d) ≡ d.month
unfolding month_of
month_tells d h =
    let same : pos (year_of (epoch_day d)) ≡ d.year = ap pos (year_tells d h) ∙ omega (arith, ints) in
    let months = (civil d).1 in
    last_is (λ month. has_begun (year_of (epoch_day d)) month (epoch_day d)) 12 d.month (omega (arith, months)) (omega (arith, months))
    (le_test (days_from_civil (pos (year_of (epoch_day d))) d.month 1) (epoch_day d) (rw same (month_begun d)))
    (λ j more most. lt_test (days_from_civil (pos (year_of (epoch_day d))) j 1) (epoch_day d) (rw same (later_month d j more)))

day_tells : (d : Date) → pos 1 ≤ℤ d.year → day_of (epoch_day d) ≡ d.day
unfolding day_of
day_tells d h =
    let year : pos (year_of (epoch_day d)) ≡ d.year = ap pos (year_tells d h) ∙ omega (arith, ints) in
    let first : days_from_civil (pos (year_of (epoch_day d))) (month_of (epoch_day d)) 1 ≡ days_from_civil d.year d.month 1 =
    ap (λ (y : ℤ). days_from_civil y (month_of (epoch_day d)) 1) year ∙ ap (λ (m : ℕ). days_from_civil d.year m 1) (month_tells d h) in
    let some = (civil d).2.0 in
    let e = days_from_civil-day d.year d.month d.day 1 some (omega arith) in
    omega (arith, ints, first, e, some)

-- so the text of a date is that of its day
pub day_text-date : (d : Date) → pos 1 ≤ℤ d.year → day_text (epoch_day d) ≡ civil_text d
day_text-date d h =
    ap (λ (y : ℕ). date_text y (month_of (epoch_day d)) (day_of (epoch_day d))) (year_tells d h)
    ∙ ap (λ (m : ℕ). date_text (unsigned_abs d.year) m (day_of (epoch_day d))) (month_tells d h)
    ∙ ap (λ (n : ℕ). date_text (unsigned_abs d.year) d.month n) (day_tells d h)
