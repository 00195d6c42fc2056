-- A week after an entry fires it fires again.
use Rattle.std.proofs.Common.{◌≡◌, ℕ, zero, suc, ◌+◌, ◌*◌, ◌<◌, ◌≤◌, List, refl, ap, ap₂, sym, ◌∙◌, arith, ◌⊎◌, inl, inr, ℤ, pos, ◌+ℤ◌, ◌-ℤ◌, ◌*ℤ◌, ◌<ℤ◌, ◌≤ℤ◌}
use Rattle.std.specs.Prelude.{unsigned_abs}
use Rattle.std.proofs.lemmas.Int.{ints}
use Rattle.jiff_core.specs.declared.civil.date.Date.{Date}
use Rattle.jiff_core.specs.Calendar.{days_in_month, days_from_civil, weekday_number}
use Rattle.jiff_core.proofs.CalendarLemmas.{days_in_month_bounds}
use Rattle.jiff_core.proofs.DateLemmas.{days_from_civil-day, days_from_civil-next_month, days_from_civil-next_year, days_from_civil-max}
use Rattle.jiff.specs.Types.{DateTime, TimeZone}
use Rattle.jiff.specs.Words.{epoch_day, compatible_offset, ambiguous_at}
use Rattle.ob_weekly.specs.declared.due.Due.{Due}
use Rattle.ob_weekly.specs.declared.schedule.Entry.{Entry}
use Rattle.ob_weekly.specs.declared.schedule.Schedule.{Schedule}
use Rattle.ob_weekly.specs.Firings.{IsDue}
use Rattle.ob_weekly.specs.Zones.{FiresAt}
use Rattle.ob_weekly.proofs.Dates.{in_ms, near_local}
use Rattle.ob_weekly.proofs.Days.{next_week}

pub below_or : (a b : ℕ) → (a < b) ⊎ (b ≤ a)
below_or a b = grind arith

up_to_or : (a b : ℤ) → (a ≤ℤ b) ⊎ (b <ℤ a)
up_to_or a b = grind (arith, ints)

last_day_of_year : (y : ℤ) (m d : ℕ) → m ≤ 12 → 12 ≤ m → d ≤ days_in_month y m → days_in_month y m ≤ d → (m ≡ 12) × (d ≡ 31)
last_day_of_year y m d most least upto from =
    let month : m ≡ 12 = omega (arith, most, least) in
    let days : days_in_month y m ≡ 31 = ap (days_in_month y) month in
    (month, omega (arith, days, upto, from))

-- the day after a date is a date, but after the very last one
next_date : (d : Date) → epoch_day d <ℤ pos 2_932_896 → (e : Date) × (epoch_day e ≡ epoch_day d +ℤ pos 1)
next_date d early =
    elim (below_or d.day (days_in_month d.year d.month)) [
      | inl lt ↦ (
        record { year = d.year; month = d.month; day = d.day + 1; year_in = d.year_in; month_in = d.month_in; day_in = (omega arith, omega (arith, lt)) },
        (let next = days_from_civil-day d.year d.month (d.day + 1) d.day (omega arith) d.day_in.0 in omega (arith, ints, next)),
      )
      | inr last ↦ elim (below_or d.month 12) [
        | inl lt ↦ (
          record { year = d.year; month = d.month + 1; day = 1; year_in = d.year_in; month_in = (omega arith, omega (arith, lt)); day_in = (omega arith, (let b = (days_in_month_bounds d.year (d.month + 1)).1 in omega (arith, b))) },
          days_from_civil-next_month d.year d.month d.day d.month_in.0 (let upto = d.day_in.1 in omega (arith, last, upto)),
        )
        | inr december ↦ (
            let same = last_day_of_year d.year d.month d.day d.month_in.1 december d.day_in.1 last in
            let day_is : epoch_day d ≡ days_from_civil d.year 12 31 = ap₂ (λ (m : ℕ) (n : ℕ). days_from_civil d.year m n) same.0 same.1 in
            let before : d.year <ℤ pos 9_999 = year_before d.year d.year_in.1 (λ e. (let f = day_is ∙ (ap (λ y. days_from_civil y 12 31) e ∙ days_from_civil-max) in omega (arith, ints, f, early))) in
            let low = d.year_in.0 in
            let next = days_from_civil-next_year d.year (d.year +ℤ pos 1) (omega (arith, ints, low)) refl in (
              record { year = d.year +ℤ pos 1; month = 1; day = 1; year_in = (omega (arith, ints, low), omega (arith, ints, before)); month_in = (omega arith, omega arith); day_in = (omega arith, (let b = (days_in_month_bounds (d.year +ℤ pos 1) 1).1 in omega (arith, b))) },
              next ∙ ap (λ n. n +ℤ pos 1) (sym day_is),
            )
            )
      ]
    ]
  where
    year_before : (y : ℤ) → y ≤ℤ pos 9_999 → (y ≡ pos 9_999 → ⊥) → y <ℤ pos 9_999
    year_before y upto isnt = elim (up_to_or (pos 9_999) y) [
      | inl high ↦ absurd (isnt (omega (arith, ints, upto, high)))
      | inr lt ↦ lt
    ]

-- and so many days after it
days_later : (n : ℕ) (d : Date) → (epoch_day d +ℤ pos n) ≤ℤ pos 2_932_896 → (e : Date) × (epoch_day e ≡ epoch_day d +ℤ pos n)
days_later zero d early = (d, omega (arith, ints))
days_later (suc n) d early =
    let e = days_later n d (omega (arith, ints, early)) in
    let e_is = e.1 in
    let f = next_date e.0 (omega (arith, ints, e_is, early)) in
    let f_is = f.1 in
    (f.0, omega (arith, ints, e_is, f_is))

-- a week after an entry fires it fires again, less than two and a half days sooner or later
pub week_later : (zone : TimeZone) (e : Entry) (at : ℤ) → FiresAt zone e at → at ≤ℤ pos 253_399_276_799_999
    → (later : ℤ) × FiresAt zone e later × ((at +ℤ pos 417_602_000) ≤ℤ later) × (later ≤ℤ (at +ℤ pos 791_998_000))
week_later zone e at f early =
    let day : ℤ = epoch_day f.civil.date in
    let near = near_local zone e day at (record { civil = f.civil; date = refl; weekday = f.weekday; time = f.time; instant = f.instant }) in
    let near_from = near.0 in
    let near_upto = near.1 in
    let date = days_later 7 f.civil.date (omega (arith, ints, near_from, early)) in
    let date_is = date.1 in
    let civil : DateTime = record { date = date.0; time = f.civil.time } in
    let later : ℤ = (((day +ℤ pos 7) *ℤ pos 86_400_000) +ℤ pos e.at_ms) -ℤ ((compatible_offset (ambiguous_at zone civil)).seconds *ℤ pos 1_000) in
    let weekday : weekday_number (epoch_day date.0) + 1 ≡ e.day = ap (λ n. weekday_number n + 1) date_is ∙ (ap (λ n. n + 1) (next_week day) ∙ f.weekday) in
    let instant = in_ms zone civil (day +ℤ pos 7) later e.at_ms date_is f.time refl in
    let then = near_local zone e (day +ℤ pos 7) later (record { civil = civil; date = date_is; weekday = weekday; time = f.time; instant = instant }) in
    let then_from = then.0 in
    let then_upto = then.1 in (
      later,
      record { civil = civil; weekday = weekday; time = f.time; last = omega (arith, ints, near_from, early, date_is); instant = instant },
      omega (arith, ints, near_upto, then_from),
      omega (arith, ints, near_from, then_upto),
    )

-- So of a schedule that has fired by a moment something fired within the 35 days before it, and not sooner.
pub record IsSince (zone : TimeZone) (schedules : List Schedule) (d : Due) (to : ℕ) : Type 0 where
  pub due : Due
  pub is : IsDue zone schedules due
  pub of : due.schedule ≡ d.schedule
  pub since : d.at ≤ℤ due.at
  pub upto : due.at ≤ℤ pos to
  pub near : pos to ≤ℤ (due.at +ℤ pos 3_024_000_000)

within : (zone : TimeZone) (schedules : List Schedule) (n : ℕ) (d : Due) (to : ℕ) → IsDue zone schedules d → d.at ≤ℤ pos to → to ≤ 253_402_300_799_999
    → pos to ≤ℤ (d.at +ℤ pos (3_024_000_000 + n * 400_000_000)) → IsSince zone schedules d to
within zone schedules zero d to is upto moment far = record { due = d; is = is; of = refl; since = omega (arith, ints); upto = upto; near = omega (arith, ints, far) }
within zone schedules (suc n) d to is upto moment far =
    elim (up_to_or (pos to) (d.at +ℤ pos 3_024_000_000)) [
      | inl near ↦ record { due = d; is = is; of = refl; since = omega (arith, ints); upto = upto; near = near }
      | inr long ↦ (
          let week = week_later zone is.entry d.at is.fires (omega (arith, ints, long, moment)) in
          let from = week.2 in
          let upto_is = week.3 in
          let next : Due = record d { at = week.0 } in
          let rest = within zone schedules n next to (record { schedule = is.schedule; entry = is.entry; schedule_is = is.schedule_is; entry_is = is.entry_is; day = is.day; time = is.time; fires = week.1 })
          (omega (arith, ints, upto_is, long)) moment (omega (arith, ints, far, from)) in
          let since = rest.since in
          record { due = rest.due; is = rest.is; of = rest.of; since = omega (arith, ints, since, from); upto = rest.upto; near = rest.near }
          )
    ]

pub since_then : (zone : TimeZone) (schedules : List Schedule) (d : Due) (to : ℕ) → IsDue zone schedules d → d.at ≤ℤ pos to → to ≤ 253_402_300_799_999 → IsSince zone schedules d to
since_then zone schedules d to is upto moment = within zone schedules (unsigned_abs (pos to -ℤ d.at)) d to is upto moment (omega (arith, ints, upto))
