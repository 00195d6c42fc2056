-- A value that was read is in the range of its kind: its printed text spells it.
use Rattle.std.proofs.Common.{◌≡◌, ℕ, ◌+◌, ◌-◌, ◌*◌, ◌/◌, ◌%◌, ◌<◌, ◌≤◌, Bool, true, false, List, Result, Ok, refl, sym, ap, ◌∙◌, subst, arith, inl, inr, FitsSigned, w64}
use Rattle.std.specs.Prelude.{ℤ, pos, neg_ℤ, ◌+ℤ◌, ◌-ℤ◌, ◌≤ℤ◌, unsigned_abs}
use Rattle.std.proofs.lemmas.Int.{ints}
use Rattle.jiff.specs.Types.{Date}
use Rattle.jiff.specs.Words.{epoch_day}
use Rattle.ob_spelling.specs.Numeral.{signed}
use Rattle.ob_spelling.specs.White.{trim}
use Rattle.ob_times.specs.CivilText.{IsFraction}
use Rattle.ob_times.specs.Civil.{IsDateSpelled}
use Rattle.ob_times.specs.Clock.{IsTimeSpelled, second_of_day}
use Rattle.ob_times.specs.InstantText.{zone_offset, IsInstantSpelled}
use Rattle.ob_times.specs.PrintedTimes.{instant_text}
use Rattle.ob_times.specs.SpanText.{months_of, nanos_of, IsSpanSpelled}
use Rattle.ob_times.specs.Times.{Instant, Span, IsSpan, at_clock, since_year_1}
use Rattle.ob_times.proofs.DayLemmas.{since_year_1 as days_since_year_1}
use Rattle.ob_times.proofs.PrintedSpanLemmas.{span_spelled}
use Rattle.ob_times.proofs.PrintedTimesLemmas.{time_spelled, date_spelled, ShowsInstant, instant_spelled, instant_text-parts}
use Rattle.ob_times.proofs.FractionLemmas.{below_billion}
use Rattle.ob_values.specs.Decimal.{IsDecimal}
use Rattle.ob_values.specs.Faults.{ValueFault}
use Rattle.ob_values.specs.XmlText.{IsXmlText}
use Rattle.ob_values.specs.declared.value.Value.{Value}
use Rattle.ob_values.specs.declared.value.Value.TheVariants as value
use Rattle.ob_values.proofs.PrintedLemmas.{spelled_integer, spelled_real, fits_size}
use Rattle.ob_object.specs.declared.kind.Kind.{Kind}
use Rattle.ob_object.specs.declared.kind.Kind.TheVariants as kind
use Rattle.ob_encoding.specs.Parts.{ReadAs, ReadsValue, ReadsLimit}
use Rattle.ob_documents.specs.Carried.{IsWritten}
use Rattle.ob_documents.proofs.Fitting.{read_ok, same_value}

truth_written : (b : Bool) → IsWritten (value.Bool b)
truth_written true = inl refl
truth_written false = inl refl

pub int_written : (z : ℤ) → FitsSigned w64 z → IsWritten (value.Int z)
int_written z fits = (spelled_integer z (fits_size z fits), fits)

real_written : (z : ℤ) → IsDecimal z → IsWritten (value.Real z)
real_written z is = (spelled_real z is, is)

-- ---- times of day

nanos_below : (text : List ℕ) (n : ℕ) → IsFraction text n → n < 1_000_000_000
nanos_below text n (inl h) = omega (arith, h.1)
nanos_below text n (inr h) = (let below = below_billion h.digits h.numeral.1 h.few in omega (arith, h.value, below))

second_below : (hour minute second : ℕ) → hour < 24 → minute < 60 → second < 60 → (hour * 60 + minute) * 60 + second < 86_400
second_below hour minute second h m s = omega (arith, h, m, s)

time_written : (text : List ℕ) (n : ℕ) → IsTimeSpelled text n → IsWritten (value.Time n)
time_written text n h =
    let nanos = nanos_below h.1.fraction h.0.nanos h.1.is_fraction in
    let second = second_below h.0.hour h.0.minute h.0.second h.2.0 h.2.1 h.2.2 in
    time_spelled n (omega (arith, h.3, nanos, second))

-- ---- dates

date_written : (text : List ℕ) (d : Date) → IsDateSpelled text d → IsWritten (value.Date d)
date_written text d h = date_spelled d (subst (λ (y : ℤ). pos 1 ≤ℤ y) (sym h.3.0) h.2.0)

-- ---- spans

signed_size : (back : Bool) (n : ℕ) → unsigned_abs (signed back n) ≡ n
signed_size true n = omega (arith, ints)
signed_size false n = omega (arith, ints)

is_span : (back : Bool) (m n : ℕ) → m ≤ 120_000 → n ≤ 9_223_372_036_854_775_807 → IsSpan (record { months = signed back m; nanos = signed back n })
is_span true m n h k = record {
  months_low = omega (arith, ints, h);
  months_high = omega (arith, ints);
  nanos_low = omega (arith, ints, k);
  signs = inr (omega (arith, ints), omega (arith, ints));
}
is_span false m n h k = record {
  months_low = omega (arith, ints);
  months_high = omega (arith, ints, h);
  nanos_low = omega (arith, ints);
  signs = inl (omega (arith, ints), omega (arith, ints));
}

span_written : (text : List ℕ) (s : Span) → IsSpanSpelled text s → IsWritten (value.Reltime s)
span_written text s h =
    let p = h.0 in
    let fits = h.2 in
    subst (λ (t : Span). IsWritten (value.Reltime t)) (sym h.3)
    (span_spelled (record { months = signed p.negative (months_of p); nanos = signed p.negative (nanos_of p) }) (is_span p.negative (months_of p) (nanos_of p) fits.0 fits.1)
    (omega (arith, signed_size p.negative (months_of p), fits.0)) (omega (arith, signed_size p.negative (nanos_of p), fits.1)))

-- ---- instants

offset_size : (west : Bool) (n : ℕ) → n ≤ 840 → unsigned_abs (signed west n) ≤ 840
offset_size west n h = omega (arith, signed_size west n, h)

-- the seconds since the year 1 of a clock that shows that day and second
since_is : (day offset : ℤ) (second nanos : ℕ) → neg_ℤ (pos 719_162) ≤ℤ day → (k : ℕ) × (day ≡ pos k -ℤ pos 719_162) × (since_year_1 (at_clock day second nanos offset) ≡ k * 86_400 + second)
since_is day offset second nanos h =
    let k = unsigned_abs (day +ℤ pos 719_162) in
    let whole : day ≡ pos k -ℤ pos 719_162 = omega (arith, ints, h) in
    (k, whole, omega (arith, ints, whole))

parts_of : (since k second : ℕ) → second < 86_400 → since ≡ k * 86_400 + second → (since / 86_400 ≡ k) × (since % 86_400 ≡ second)
parts_of since k second h e = (omega (arith, h, e), omega (arith, h, e))

abbrev shows : (date : Date) (second nanos : ℕ) (offset : ℤ) → pos 1 ≤ℤ date.year → second < 86_400 → ShowsInstant (at_clock (epoch_day date) second nanos offset) (instant_text (at_clock (epoch_day date) second nanos offset))
shows date second nanos offset year below =
    let a : Instant = at_clock (epoch_day date) second nanos offset in
    let since = since_is (epoch_day date) offset second nanos (days_since_year_1 date year) in
    let parts = parts_of (since_year_1 a) since.0 second below since.2 in
    record {
      date = date;
      second = second;
      second_below = below;
      instant = refl;
      text_is = sym (instant_text-parts a date second year (since.1 ∙ ap (λ (k : ℕ). pos k -ℤ pos 719_162) (sym parts.0)) (sym parts.1));
    }

instant_written : (text : List ℕ) (a : Instant) → IsInstantSpelled text a → IsWritten (value.Abstime a)
instant_written text a h =
    let z = h.0 in
    let clock = h.1.is_local.is_time in
    let named = h.3 in
    let year : pos 1 ≤ℤ named.0.year = subst (λ (y : ℤ). pos 1 ≤ℤ y) (sym named.1.0) h.2.0.0 in
    let nanos = nanos_below clock.fraction z.local.clock.nanos clock.is_fraction in
    let second = second_below z.local.clock.hour z.local.clock.minute z.local.clock.second h.2.1.0 h.2.1.1 h.2.1.2 in
    subst (λ (b : Instant). IsWritten (value.Abstime b)) (sym named.2)
    (instant_spelled (at_clock (epoch_day named.0) (second_of_day z.local.clock) z.local.clock.nanos (zone_offset z.zone)) _
    (shows named.0 (second_of_day z.local.clock) z.local.clock.nanos (zone_offset z.zone) year second) year nanos (offset_size z.zone.west (z.zone.hours * 60 + z.zone.minutes) h.2.2.1))

-- ---- any kind

written_by : {A : Type 0} (view : A → Value) (v : Value) (Reads : Result A ValueFault → Type 0) → ((x : A) → Reads (Ok x) → IsWritten (view x)) → ReadAs view Reads (Ok v) → IsWritten v
written_by view v Reads each r = let x = read_ok view r.0 v r.2 in subst IsWritten (sym x.2) (each x.0 (subst Reads x.1 r.1))

text_written : (v w : Value) → IsWritten w → ◌≡◌ {A = Result Value ValueFault} (Ok v) (Ok w) → IsWritten v
text_written v w h e = subst IsWritten (sym (same_value v w e)) h

pub value_written : (k : Kind) (text : List ℕ) (v : Value) → IsXmlText text → ReadsValue k text (Ok v) → IsWritten v
value_written kind.Bool t v h r = written_by (λ b. value.Bool b) v _ (λ b _. truth_written b) r
value_written kind.Int t v h r = written_by (λ z. value.Int z) v _ (λ z s. int_written z s.1) r
value_written kind.Real t v h r = written_by (λ z. value.Real z) v _ (λ z s. real_written z s.1) r
value_written kind.Str t v h r = text_written v (value.Str t) (refl, h) r
value_written kind.Enum t v h r = text_written v (value.Enum t) (refl, h) r
value_written kind.Uri t v h r = text_written v (value.Uri t) (refl, h) r
value_written kind.Abstime t v h r = written_by (λ a. value.Abstime a) v _ (λ a s. instant_written (trim t) a s) r
value_written kind.Reltime t v h r = written_by (λ s. value.Reltime s) v _ (λ s p. span_written (trim t) s p) r
value_written kind.Date t v h r = written_by (λ d. value.Date d) v _ (λ d s. date_written (trim t) d s) r
value_written kind.Time t v h r = written_by (λ n. value.Time n) v _ (λ n s. time_written (trim t) n s) r
value_written kind.Obj t v h r = absurd r
value_written kind.List t v h r = absurd r
value_written kind.Op t v h r = absurd r
value_written kind.Feed t v h r = absurd r
value_written kind.Ref t v h r = absurd r
value_written kind.Err t v h r = absurd r

pub limit_written : (k : Kind) (text : List ℕ) (v : Value) → IsXmlText text → ReadsLimit k text (Ok v) → IsWritten v
limit_written kind.Str t v h r = written_by (λ z. value.Int z) v _ (λ z s. int_written z s.1) r
limit_written kind.List t v h r = written_by (λ z. value.Int z) v _ (λ z s. int_written z s.1) r
limit_written kind.Bool t v h r = value_written kind.Bool t v h r
limit_written kind.Int t v h r = value_written kind.Int t v h r
limit_written kind.Real t v h r = value_written kind.Real t v h r
limit_written kind.Enum t v h r = value_written kind.Enum t v h r
limit_written kind.Uri t v h r = value_written kind.Uri t v h r
limit_written kind.Abstime t v h r = value_written kind.Abstime t v h r
limit_written kind.Reltime t v h r = value_written kind.Reltime t v h r
limit_written kind.Date t v h r = value_written kind.Date t v h r
limit_written kind.Time t v h r = value_written kind.Time t v h r
limit_written kind.Obj t v h r = absurd r
limit_written kind.Op t v h r = absurd r
limit_written kind.Feed t v h r = absurd r
limit_written kind.Ref t v h r = absurd r
limit_written kind.Err t v h r = absurd r
