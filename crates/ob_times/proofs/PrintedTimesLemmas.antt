-- What is printed of dates, times of day, instants and spans is a spelling of them.
use Rattle.std.proofs.Common.{◌≡◌, ℕ, ◌+◌, ◌*◌, ◌/◌, ◌%◌, ◌<◌, ◌≤◌, Bool, true, false, List, [], ◌∷◌, ◌++◌, refl, ap, sym, ◌∙◌, subst, arith, inl, inr}
use Rattle.std.specs.Prelude.{ℤ, pos, negsuc, ◌≤ℤ◌, unsigned_abs}
use Rattle.std.specs.Int.{is_negative}
use Rattle.std.proofs.lemmas.Int.{ints}
use Rattle.std.proofs.lemmas.Bool.{le-ltb}
use Rattle.std.proofs.lemmas.Bool.Decides.{eqb_tells}
use Rattle.jiff.specs.Types.{Date}
use Rattle.jiff.specs.Words.{epoch_day}
use Rattle.jiff_core.proofs.CalendarLemmas.{days_in_month_bounds}
use Rattle.ob_spelling.specs.White.{trim}
use Rattle.ob_spelling.specs.Numeral.{signed}
use Rattle.ob_spelling.specs.Places.{short_places, fraction_text, two_digits}
use Rattle.ob_spelling.proofs.PlacesLemmas.{short_are, short_some}
use Rattle.ob_spelling.proofs.CleanLemmas.{Clean, trim-clean, clean_append, clean_cons, digits_clean}
use Rattle.ob_spelling.proofs.PairLemmas.{pair_clean, two_pairs_clean, three_pairs_clean}
use Rattle.ob_times.specs.declared.civil.Day.{Day}
use Rattle.ob_times.specs.declared.clock.Clock.{Clock}
use Rattle.ob_times.specs.declared.abstime.Zone.{Zone}
use Rattle.ob_times.specs.Civil.{IsCivil, IsDay, IsDateOf, IsDateSpelled}
use Rattle.ob_times.specs.CivilText.{IsDateText, IsFraction, IsTimeText}
use Rattle.ob_times.specs.Clock.{IsClock, second_of_day, IsTimeSpelled}
use Rattle.ob_times.specs.Times.{Instant, since_year_1, at_clock}
use Rattle.ob_times.specs.InstantText.{zone_mark, IsZoneText, IsZone, zone_offset, IsInstantSpelled}
use Rattle.ob_times.specs.PrintedTimes.{civil_text, time_text, zone_text, day_text, day_at, instant_text}
use Rattle.ob_times.proofs.FormLemmas.{day_of, clock_of}
use Rattle.ob_times.proofs.CalendarLemmas.{day_text-date}

-- ---- fractions

pub fraction_is : (n : ℕ) → n < 1_000_000_000 → IsFraction (fraction_text 9 n) n
fraction_is n h =
    elim (eqb_tells n 0) [
      | inl none ↦ rw none.0 (inl (refl, none.1))
      | inr some ↦
          let p = short_are 9 n h in
          rw some.0 (inr (record { digits = short_places 9 n; numeral = (short_some 9 n h some.1, p.digits); few = p.few; text_is = refl; value = sym p.value }))
    ]

pub fraction_clean : (n : ℕ) → n < 1_000_000_000 → Clean (fraction_text 9 n)
fraction_clean n h =
    elim (eqb_tells n 0) [
      | inl none ↦ rw none.0 tt
      | inr some ↦ rw some.0 (refl, digits_clean (short_places 9 n) (short_are 9 n h).digits)
    ]

-- ---- times of day

abbrev pub shown : ℕ → ℕ → Clock
shown second nanos = clock_of (second / 3_600) (second / 60 % 60) (second % 60) nanos

pub record TimePrinted (second nanos : ℕ) : Type 0 where
  pub is_text : IsTimeText (time_text second nanos) (shown second nanos)
  pub is_clock : IsClock (shown second nanos)
  pub value : second_of_day (shown second nanos) ≡ second
  pub clean : Clean (time_text second nanos)

pub time_printed : (second nanos : ℕ) → second < 86_400 → nanos < 1_000_000_000 → TimePrinted second nanos
time_printed second nanos h k =
    record {
      is_text = record {
        hour_below = omega arith;
        minute_below = omega arith;
        second_below = omega arith;
        fraction = fraction_text 9 nanos;
        is_fraction = fraction_is nanos k;
        text_is = refl;
      };
      is_clock = (omega arith, omega arith, omega arith);
      value = omega arith;
      clean = clean_append (two_digits (second / 3_600) ++ 58 ∷ [] ++ two_digits (second / 60 % 60) ++ 58 ∷ [] ++ two_digits (second % 60)) (fraction_text 9 nanos)
          (three_pairs_clean 58 (second / 3_600) (second / 60 % 60) (second % 60) refl)
          (fraction_clean nanos k);
    }

pub time_spelled : (n : ℕ) → n < 86_400_000_000_000 → IsTimeSpelled (trim (time_text (n / 1_000_000_000) (n % 1_000_000_000))) n
time_spelled n h =
    let second = n / 1_000_000_000 in
    let nanos = n % 1_000_000_000 in
    let p = time_printed second nanos (omega arith) (omega arith) in
    (shown second nanos, subst (λ (t : List ℕ). IsTimeText t (shown second nanos)) (sym (trim-clean _ p.clean)) p.is_text, p.is_clock, omega (arith, p.value))

-- ---- dates

abbrev pub printed_day : Date → Day
printed_day d = day_of (unsigned_abs d.year) d.month d.day

pub record DatePrinted (d : Date) : Type 0 where
  pub is_text : IsDateText (civil_text d) (printed_day d)
  pub is_day : IsDay (printed_day d)
  pub is_date : IsDateOf (printed_day d) d
  pub clean : Clean (civil_text d)

pub date_printed : (d : Date) → pos 1 ≤ℤ d.year → DatePrinted d
date_printed d h =
    let low = d.year_in.0 in
    let high = d.year_in.1 in
    let month = d.month_in in
    let day = d.day_in in
    let most = days_in_month_bounds d.year d.month in
    let same : pos (unsigned_abs d.year) ≡ d.year = omega (arith, ints) in
    record {
      is_text = record {
        year_below = omega (arith, ints);
        month_below = omega arith;
        day_below = omega (arith, most);
        text_is = refl;
      };
      is_day = subst (λ (y : ℤ). IsCivil y (pos d.month) (pos d.day)) (sym same) (h, ((low, high), (omega (arith, ints), omega (arith, ints)), (omega (arith, ints), omega (arith, ints))));
      is_date = (sym same, refl, refl);
      clean = clean_append (two_digits (unsigned_abs d.year / 100)) (two_digits (unsigned_abs d.year % 100) ++ 45 ∷ (two_digits d.month ++ 45 ∷ two_digits d.day)) (pair_clean (unsigned_abs d.year / 100)) (three_pairs_clean 45 (unsigned_abs d.year % 100) d.month d.day refl);
    }

pub date_spelled : (d : Date) → pos 1 ≤ℤ d.year → IsDateSpelled (trim (civil_text d)) d
date_spelled d h =
    let p = date_printed d h in
    (printed_day d, subst (λ (t : List ℕ). IsDateText t (printed_day d)) (sym (trim-clean _ p.clean)) p.is_text, p.is_day, p.is_date)

-- ---- offsets

pub record ZonePrinted (offset : ℤ) : Type 0 where
  pub zone : Zone
  pub is_text : IsZoneText (zone_text offset) zone
  pub is_zone : IsZone zone
  pub value : zone_offset zone ≡ offset
  pub clean : Clean (zone_text offset)

mark_clean : (b : Bool) → Clean (zone_mark b ∷ [])
mark_clean true = (refl, tt)
mark_clean false = (refl, tt)

pub signed_again : (z : ℤ) → signed (is_negative z) (unsigned_abs z) ≡ z
signed_again (pos n) = let e : is_negative (pos n) ≡ false = le-ltb n 0 (omega arith) in rw e refl
signed_again (negsuc n) = refl

pub zone_printed : (offset : ℤ) → unsigned_abs offset ≤ 840 → ZonePrinted offset
zone_printed offset h =
    let n = unsigned_abs offset in
    elim (eqb_tells n 0) [
      | inl none ↦ record {
        zone = record { west = false; hours = 0; minutes = 0 };
        is_text = rw none.0 (inl (refl, refl));
        is_zone = (omega arith, omega arith);
        value = omega (arith, ints, none.1);
        clean = rw none.0 (refl, tt);
      }
      | inr some ↦ record {
        zone = record { west = is_negative offset; hours = n / 60; minutes = n % 60 };
        is_text = rw some.0 (inr (record { hours_below = omega arith; minutes_below = omega arith; text_is = refl }));
        is_zone = (omega arith, omega arith);
        value = ap (λ (k : ℕ). signed (is_negative offset) k) (the_size n) ∙ signed_again offset;
        clean = rw some.0 (clean_append (zone_mark (is_negative offset) ∷ []) (two_digits (n / 60) ++ 58 ∷ two_digits (n % 60)) (mark_clean (is_negative offset)) (two_pairs_clean 58 (n / 60) (n % 60) refl));
      }
    ]
  where
    the_size : (n : ℕ) → n / 60 * 60 + n % 60 ≡ n
    the_size n = omega arith

-- ---- instants

-- the date and the time of day that a clock at the offset shows, and the offset
pub record ShowsInstant (a : Instant) (text : List ℕ) : Type 0 where
  pub date : Date
  pub second : ℕ
  pub second_below : second < 86_400
  pub instant : a ≡ at_clock (epoch_day date) second a.nanos a.offset
  pub text_is : text ≡ civil_text date ++ 84 ∷ (time_text second a.nanos ++ zone_text a.offset)

pub instant_spelled : (a : Instant) (text : List ℕ) (p : ShowsInstant a text) → pos 1 ≤ℤ p.date.year → a.nanos < 1_000_000_000 → unsigned_abs a.offset ≤ 840 → IsInstantSpelled (trim text) a
instant_spelled a text p h nanos offset =
    let d = date_printed p.date h in
    let t = time_printed p.second a.nanos p.second_below nanos in
    let z = zone_printed a.offset offset in
    let clean : Clean text = subst Clean (sym p.text_is) (clean_append (civil_text p.date) (84 ∷ (time_text p.second a.nanos ++ zone_text a.offset)) d.clean (clean_cons 84 (time_text p.second a.nanos ++ zone_text a.offset) refl (clean_append (time_text p.second a.nanos) (zone_text a.offset) t.clean z.clean))) in (
      record { local = record { day = printed_day p.date; clock = shown p.second a.nanos }; zone = z.zone },
      record {
        front = civil_text p.date ++ 84 ∷ time_text p.second a.nanos;
        back = zone_text a.offset;
        is_local = record {
          date = civil_text p.date;
          time = time_text p.second a.nanos;
          is_date = d.is_text;
          is_time = t.is_text;
          text_is = refl;
        };
        is_zone = z.is_text;
        text_is = trim-clean text clean ∙ p.text_is;
      },
      (d.is_day, t.is_clock, z.is_zone),
      (
        p.date,
        d.is_date,
        p.instant
            ∙ ap (λ (s : ℕ). at_clock (epoch_day p.date) s a.nanos a.offset) (sym t.value)
            ∙ ap (λ (o : ℤ). at_clock (epoch_day p.date) (second_of_day (shown p.second a.nanos)) a.nanos o) (sym z.value),
      ),
    )

-- the parts that the text of an instant is made of
pub instant_text-parts : (a : Instant) (date : Date) (second : ℕ) → pos 1 ≤ℤ date.year → epoch_day date ≡ day_at (since_year_1 a) → second ≡ since_year_1 a % 86_400
    → civil_text date ++ 84 ∷ (time_text second a.nanos ++ zone_text a.offset) ≡ instant_text a
instant_text-parts a date second h day of_day =
    ap (λ (t : List ℕ). t ++ 84 ∷ (time_text second a.nanos ++ zone_text a.offset)) (sym (day_text-date date h) ∙ ap day_text day)
    ∙ ap (λ (n : ℕ). day_text (day_at (since_year_1 a)) ++ 84 ∷ (time_text n a.nanos ++ zone_text a.offset)) of_day
