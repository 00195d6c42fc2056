-- What is written for a part is short, or no longer than six times what says it.
use Rattle.std.proofs.Common.{◌≡◌, ℕ, zero, suc, ◌+◌, ◌-◌, ◌*◌, ◌/◌, ◌%◌, ◌^◌, ◌<◌, ◌≤◌, Bool, true, false, ◌&&◌, ◌||◌, not, cond, eqb, List, [], ◌∷◌, ◌++◌, length, Result, Ok, Err, refl, sym, ap, subst, ◌∙◌, arith, length-append}
use Rattle.std.specs.Prelude.{decimal, ℤ, pos, negsuc, unsigned_abs}
use Rattle.std.specs.Int.{is_negative}
use Rattle.std.specs.Fmt.{signed_decimal}
use Rattle.std.specs.Char.{encode_utf8}
use Rattle.std.specs.Str.{chars, encode_utf8_all}
use Rattle.std.proofs.Math.Nat.{mul-le-mul_left, pow-le-pow_right}
use Rattle.std.proofs.lemmas.Fmt.{decimal_by_steps, length-decimal-le}
use Rattle.std.proofs.lemmas.Str.{encodes-chars, length-encode, len_utf8_bounds}
use Rattle.std.proofs.lemmas.Bool.Decides.{nat_tests}
use Rattle.ob_spelling.specs.Numeral.{signed}
use Rattle.ob_spelling.specs.Places.{places, short_places, fraction_text, minus, two_digits}
use Rattle.ob_spelling.specs.White.{is_white, trim_start, trim_end, trim}
use Rattle.ob_times.specs.CivilText.{date_text, clock_text}
use Rattle.ob_times.specs.InstantText.{IsZonedText, zone_mark}
use Rattle.ob_times.specs.PrintedTimes.{time_text, zone_text, day_text, day_at, instant_text, months_text, seconds_text, span_text}
use Rattle.ob_times.specs.Readers.{ReadsDate, ReadsTime, ReadsAbstime, ReadsReltime}
use Rattle.ob_times.specs.SpanText.{FitsSpan, IsSpanOf, months_of, nanos_of}
use Rattle.ob_times.specs.Times.{Instant, Span, since_year_1}
use Rattle.ob_values.specs.declared.value.Value.{Value}
use Rattle.ob_values.specs.declared.value.Value.TheVariants as values
use Rattle.ob_values.specs.Printed.{truth_text, real_text}
use Rattle.ob_values.specs.Spelled.{printed}
use Rattle.ob_values.specs.Decimal.{IsDecimal}
use Rattle.ob_values.specs.Faults.{ValueFault}
use Rattle.ob_values.specs.Readers.{ReadsBool, ReadsInt, ReadsDec}
use Rattle.ob_values.proofs.PrintedLemmas.{fits_size}
use Rattle.ob_object.specs.declared.kind.Kind.{Kind}
use Rattle.ob_object.specs.declared.kind.Kind.TheVariants as kind
use Rattle.ob_object.specs.declared.status.Status.{Status}
use Rattle.ob_object.specs.declared.status.Status.TheVariants as status
use Rattle.ob_scan.specs.Expansion.{Expands}
use Rattle.ob_encoding.specs.declared.field.ValueField.TheVariants as reads
use Rattle.ob_encoding.specs.declared.field.Field.TheVariants as field
use Rattle.ob_encoding.specs.declared.part.Part.{Part}
use Rattle.ob_encoding.specs.declared.part.Part.TheVariants as part
use Rattle.ob_encoding.specs.Parts.{read_as, ReadAs, ReadsValue, ReadsLimit}
use Rattle.ob_encoding.specs.Statuses.{status_read}
use Rattle.ob_encoding.specs.WordLists.{is_blank, ended, words_from, words_of}
use Rattle.ob_encoding.specs.Canonical.{joined}
use Rattle.ob_encoding.specs.Names.{status_word}
use Rattle.ob_encoding.specs.Escaped.{escape, escaped}
use Rattle.ob_encoding.proofs.Joining.{escaped-append}
use Rattle.ob_size_laws.proofs.Escapes.{escaped_most, expanded_short, expanded_fits, expanded_utf8}
use Rattle.ob_size_laws.proofs.Heads.{most, PartsAreShort}

-- ---- the bytes that are written for a text

abbrev pub cost : List ℕ → ℕ
cost text = length (escaped text)

pub cost_append : (xs ys : List ℕ) → cost (xs ++ ys) ≡ cost xs + cost ys
cost_append xs ys = ap length (escaped-append xs ys) ∙ length-append (escaped xs) (escaped ys)

-- ---- digits

digit_cost : (d : ℕ) → d < 10 → length (escape (48 + d)) ≤ 1
digit_cost d lt =
    let p : eqb (48 + d) 38 ≡ false = grind (arith, nat_tests) in
    let q : eqb (48 + d) 60 ≡ false = grind (arith, nat_tests) in
    let r : eqb (48 + d) 34 ≡ false = grind (arith, nat_tests) in
    let s : eqb (48 + d) 9 ≡ false = grind (arith, nat_tests) in
    let t : eqb (48 + d) 10 ≡ false = grind (arith, nat_tests) in
    let u : eqb (48 + d) 13 ≡ false = grind (arith, nat_tests) in
    rw (p, q, r, s, t, u) (omega arith)

cost_more : (b : ℕ) (text : List ℕ) → cost (b ∷ text) ≡ length (escape b) + cost text
cost_more b text = length-append (escape b) (escaped text)

decimal_cost : (n : ℕ) → n < 2 ^ 64 → cost (decimal n) ≤ length (decimal n)
decimal_cost n lt =
    decimal_by_steps (λ n ds. cost ds ≤ length ds)
    (λ n le. omega (arith, cost_more (48 + n) [], digit_cost n le))
    (λ n ds le h. let m : n % 10 < 10 = omega arith in omega (arith, h, cost_append ds ((48 + n % 10) ∷ []), cost_more (48 + n % 10) [], digit_cost (n % 10) m, length-append ds ((48 + n % 10) ∷ []))) n lt

-- a number below 10 ^ k in k bytes
few_digits : (k n : ℕ) → 0 < k → n < 10 ^ k → n < 2 ^ 64 → cost (decimal n) ≤ k
few_digits k n some lt small = omega (arith, decimal_cost n small, length-decimal-le k n some lt small)

places_cost : (s n : ℕ) → cost (places s n) ≤ s
places_cost zero n = omega arith
places_cost (suc s) n =
    let d : n / 10 ^ s % 10 < 10 = omega arith in
    omega (arith, cost_more (48 + n / 10 ^ s % 10) (places s n), digit_cost (n / 10 ^ s % 10) d, places_cost s n)

short_cost : (k n : ℕ) → cost (short_places k n) ≤ k
unfolding short_places
short_cost zero n = omega arith
short_cost (suc k) n = elim (eqb (n % 10) 0) as (λ v. cost (cond v (short_places k (n / 10)) (places (suc k) n)) ≤ suc k) [
  | true ↦ omega (arith, short_cost k (n / 10))
  | false ↦ places_cost (suc k) n
]

fraction_cost : (k n : ℕ) → cost (fraction_text k n) ≤ k + 1
fraction_cost k n = elim (eqb n 0) as (λ v. cost (cond v [] (46 ∷ short_places k n)) ≤ k + 1) [
  | true ↦ omega arith
  | false ↦ omega (arith, short_cost k n)
]

minus_cost : (b : Bool) → cost (minus b) ≤ 1
minus_cost true = omega arith
minus_cost false = omega arith

-- ---- values

truth_cost : (b : Bool) → cost (truth_text b) ≤ 5
truth_cost true = omega arith
truth_cost false = omega arith

int_cost : (z : ℤ) → unsigned_abs z < 2 ^ 64 → cost (signed_decimal z) ≤ 21
int_cost (pos n) lt = omega (arith, few_digits 20 n (omega arith) (omega (arith, lt)) lt)
int_cost (negsuc n) lt = omega (arith, few_digits 20 (suc n) (omega arith) (omega (arith, lt)) lt)

whole_small : (n : ℕ) → n < 10 ^ 36 → n / 10 ^ 18 < 10 ^ 18
whole_small n lt = omega arith

real_cost : (z : ℤ) → unsigned_abs z < 10 ^ 36 → cost (real_text z) ≤ 38
real_cost z lt =
    let whole : List ℕ = decimal (unsigned_abs z / 10 ^ 18) in
    let rest : List ℕ = fraction_text 18 (unsigned_abs z % 10 ^ 18) in
    let below = whole_small (unsigned_abs z) lt in
    let first : cost whole ≤ 18 = few_digits 18 (unsigned_abs z / 10 ^ 18) (omega arith) below (omega (arith, below)) in
    omega (arith, first, minus_cost (is_negative z), fraction_cost 18 (unsigned_abs z % 10 ^ 18), cost_append whole rest, cost_append (minus (is_negative z)) (whole ++ rest))

-- each of its ten bytes in at most six
date_cost : (year month day : ℕ) → cost (date_text year month day) ≤ 60
date_cost year month day = escaped_most (date_text year month day)

clock_cost : (hour minute second : ℕ) (rest : List ℕ) → cost (clock_text hour minute second rest) ≤ 48 + cost rest
clock_cost hour minute second rest =
    let front : List ℕ = clock_text hour minute second [] in
    let most : cost front ≤ 48 = escaped_most front in
    omega (arith, most, cost_append front rest)

time_cost : (second nanos : ℕ) → cost (time_text second nanos) ≤ 58
time_cost second nanos = omega (arith, clock_cost (second / 3_600) (second / 60 % 60) (second % 60) (fraction_text 9 nanos), fraction_cost 9 nanos)

zone_cost : (offset : ℤ) → cost (zone_text offset) ≤ 36
zone_cost offset = elim (eqb (unsigned_abs offset) 0) as (λ v. cost (cond v (90 ∷ []) (zone_mark (is_negative offset) ∷ (two_digits (unsigned_abs offset / 60) ++ 58 ∷ [] ++ two_digits (unsigned_abs offset % 60)))) ≤ 36) [
  | true ↦ omega arith
  | false ↦ escaped_most (zone_mark (is_negative offset) ∷ (two_digits (unsigned_abs offset / 60) ++ 58 ∷ [] ++ two_digits (unsigned_abs offset % 60)))
]

instant_cost : (a : Instant) → cost (instant_text a) ≤ 155
instant_cost a =
    let day : List ℕ = day_text (day_at (since_year_1 a)) in
    let time : List ℕ = time_text (since_year_1 a % 86_400) a.nanos in
    let zone : List ℕ = zone_text a.offset in
    let of_day : cost day ≤ 60 = escaped_most day in
    omega (arith, of_day, time_cost (since_year_1 a % 86_400) a.nanos, zone_cost a.offset, cost_append time zone, cost_append day (84 ∷ (time ++ zone)))

months_cost : (n : ℕ) → n < 2 ^ 64 → cost (months_text n) ≤ 21
months_cost n lt = elim (eqb n 0) as (λ v. cost (cond v [] (decimal n ++ 77 ∷ [])) ≤ 21) [
  | true ↦ omega arith
  | false ↦ omega (arith, few_digits 20 n (omega arith) (omega (arith, lt)) lt, cost_append (decimal n) (77 ∷ []))
]

seconds_cost : (months n : ℕ) → n < 2 ^ 64 → cost (seconds_text months n) ≤ 32
seconds_cost months n lt = elim (eqb n 0 && not (eqb months 0)) as (λ v. cost (cond v [] (84 ∷ (decimal (n / 1_000_000_000) ++ (fraction_text 9 (n % 1_000_000_000) ++ 83 ∷ [])))) ≤ 32) [
  | true ↦ omega arith
  | false ↦ some
]
  where
    some : cost (84 ∷ (decimal (n / 1_000_000_000) ++ (fraction_text 9 (n % 1_000_000_000) ++ 83 ∷ []))) ≤ 32
    some =
        let whole : List ℕ = decimal (n / 1_000_000_000) in
        let rest : List ℕ = fraction_text 9 (n % 1_000_000_000) in
        let below : n / 1_000_000_000 < 2 ^ 64 = omega (arith, lt) in
        omega (arith, few_digits 20 (n / 1_000_000_000) (omega arith) (omega (arith, below)) below, fraction_cost 9 (n % 1_000_000_000), cost_append rest (83 ∷ []), cost_append whole (rest ++ 83 ∷ []))

span_cost : (s : Span) → unsigned_abs s.months < 2 ^ 64 → unsigned_abs s.nanos < 2 ^ 64 → cost (span_text s) ≤ 55
span_cost s m n =
    let months : List ℕ = months_text (unsigned_abs s.months) in
    let seconds : List ℕ = seconds_text (unsigned_abs s.months) (unsigned_abs s.nanos) in
    let sign : List ℕ = minus (is_negative s.months || is_negative s.nanos) in
    omega (arith, minus_cost (is_negative s.months || is_negative s.nanos), months_cost (unsigned_abs s.months) m, seconds_cost (unsigned_abs s.months) (unsigned_abs s.nanos) n, cost_append months seconds, cost_append sign (80 ∷ (months ++ seconds)))

status_cost : (s : Status) → cost (status_word s) ≤ 12
status_cost status.Disabled = omega arith
status_cost status.Fault = omega arith
status_cost status.Down = omega arith
status_cost status.UnackedAlarm = omega arith
status_cost status.Alarm = omega arith
status_cost status.Unacked = omega arith
status_cost status.Overridden = omega arith
status_cost status.Ok = omega arith

-- ---- what is read

decimal_small : (z : ℤ) → IsDecimal z → unsigned_abs z < 10 ^ 36
decimal_small z d =
    let fewer : 18 - d.scale ≤ 18 = omega arith in
    let ten : 0 < 10 = omega arith in
    let scale : 10 ^ (18 - d.scale) ≤ 10 ^ 18 = pow-le-pow_right ten fewer in
    below d.coefficient (10 ^ (18 - d.scale)) (unsigned_abs z) d.small scale d.value
  where
    below : (c p n : ℕ) → c < 10 ^ 18 → p ≤ 10 ^ 18 → n ≡ c * p → n < 10 ^ 36
    below c p n small le e = omega (arith, mul-le-mul_left c le)

size_signed : (b : Bool) (n : ℕ) → unsigned_abs (signed b n) ≡ n
size_signed true zero = refl
size_signed true (suc n) = refl
size_signed false n = refl

start_short : (text : List ℕ) → length (trim_start text) ≤ length text
start_short [] = omega arith
start_short (c ∷ cs) = elim (is_white c) as (λ v. length (cond v (trim_start cs) (c ∷ cs)) ≤ length (c ∷ cs)) [
  | true ↦ omega (arith, start_short cs)
  | false ↦ omega arith
]

end_short : (text : List ℕ) → length (trim_end text) ≤ length text
end_short [] = omega arith
end_short (c ∷ cs) = elim (is_white c && eqb (length (trim_end cs)) 0) as (λ v. length (cond v [] (c ∷ trim_end cs)) ≤ length (c ∷ cs)) [
  | true ↦ omega arith
  | false ↦ omega (arith, end_short cs)
]

trim_short : (text : List ℕ) → length (trim text) ≤ length text
trim_short text = omega (arith, end_short (trim_start text), start_short text)

zoned_long : (text : List ℕ) (z : _) → IsZonedText text z → 10 ≤ length text
zoned_long text z t =
    let date : length t.is_local.date ≡ 10 = ap length t.is_local.is_date.text_is in
    omega (arith, date, ap length t.text_is, ap length t.is_local.text_is, length-append t.front t.back, length-append t.is_local.date (84 ∷ t.is_local.time))

-- what is read is no longer than the bytes of what is written, where that holds of all that it is read as
read_size : {A B : Type 0} (view : A → B) (Reads : Result A ValueFault → Type 0) (size : B → ℕ) (n : ℕ) (b : B) → ((a : A) → Reads (Ok a) → size (view a) ≤ n) → ReadAs view Reads (Ok b) → size b ≤ n
read_size view Reads size n b h (Ok a, r, e) = (let same : b ≡ view a = cc in subst (λ (x : _). size x ≤ n) (sym same) (h a r))
read_size view Reads size n b h (Err f, r, e) = absurd (let no : Ok b ≡ Err f = e in cc)

-- what is read is the same
abbrev SameRead : {B : Type 0} → B → B → Type 0
SameRead {B} b c = (let read : Result B ValueFault = Ok b in let as_read : Result B ValueFault = Ok c in read ≡ as_read)

abbrev value_cost : Value → ℕ
value_cost v = cost (printed v)

text_value : (raw text : List ℕ) (v w : Value) → Expands raw text → value_cost w ≡ cost text → SameRead v w → value_cost v ≤ 64 + 16 * length raw
text_value raw text v w x size e = (let same : v ≡ w = cc in omega (arith, ap value_cost same, size, expanded_fits raw text x))

wider : (n m : ℕ) → n ≤ 64 → n ≤ 64 + 16 * m
wider n m le = omega (arith, le)

read_value : (k : Kind) (raw text : List ℕ) (v : Value) → Expands raw text → ReadsValue k text (Ok v) → value_cost v ≤ 64 + 16 * length raw
read_value kind.Bool raw text v x r = wider _ (length raw) (read_size (λ b. values.Bool b) (ReadsBool text) value_cost 64 v (λ b h. omega (arith, truth_cost b)) r)
read_value kind.Int raw text v x r = wider _ (length raw) (read_size (λ z. values.Int z) (ReadsInt text) value_cost 64 v (λ z h. omega (arith, int_cost z (fits_size z h.1))) r)
read_value kind.Real raw text v x r = wider _ (length raw) (read_size (λ z. values.Real z) (ReadsDec text) value_cost 64 v (λ z h. omega (arith, real_cost z (decimal_small z h.1))) r)
read_value kind.Str raw text v x r = text_value raw text v (values.Str text) x refl r
read_value kind.Enum raw text v x r = text_value raw text v (values.Enum text) x refl r
read_value kind.Uri raw text v x r = text_value raw text v (values.Uri text) x refl r
read_value kind.Abstime raw text v x r = read_size (λ a. values.Abstime a) (ReadsAbstime text) value_cost (64 + 16 * length raw) v (λ a h. omega (arith, instant_cost a, zoned_long (trim text) h.0 h.1, trim_short text, expanded_short raw text x)) r
read_value kind.Reltime raw text v x r = wider _ (length raw) (read_size (λ s. values.Reltime s) (ReadsReltime text) value_cost 64 v (λ s h. span s h.0 h.2 h.3) r)
  where
    span : (s : Span) (p : _) → FitsSpan p → IsSpanOf p s → value_cost (values.Reltime s) ≤ 64
    span s p fits is =
        let months : unsigned_abs s.months < 2 ^ 64 = omega (arith, ap (λ (s : Span). unsigned_abs s.months) is, size_signed p.negative (months_of p), fits.0) in
        let nanos : unsigned_abs s.nanos < 2 ^ 64 = omega (arith, ap (λ (s : Span). unsigned_abs s.nanos) is, size_signed p.negative (nanos_of p), fits.1) in
        omega (arith, span_cost s months nanos)
read_value kind.Date raw text v x r = wider _ (length raw) (read_size (λ d. values.Date d) (ReadsDate text) value_cost 64 v (λ d h. omega (arith, date_cost (unsigned_abs d.year) d.month d.day)) r)
read_value kind.Time raw text v x r = wider _ (length raw) (read_size (λ n. values.Time n) (ReadsTime text) value_cost 64 v (λ n h. omega (arith, time_cost (n / 1_000_000_000) (n % 1_000_000_000))) r)
read_value kind.Obj raw text v x r = absurd r
read_value kind.List raw text v x r = absurd r
read_value kind.Op raw text v x r = absurd r
read_value kind.Feed raw text v x r = absurd r
read_value kind.Ref raw text v x r = absurd r
read_value kind.Err raw text v x r = absurd r

read_count : (raw text : List ℕ) (v : Value) → ReadAs (λ z. values.Int z) (ReadsInt text) (Ok v) → value_cost v ≤ 64 + 16 * length raw
read_count raw text v r = wider _ (length raw) (read_size (λ z. values.Int z) (ReadsInt text) value_cost 64 v (λ z h. omega (arith, int_cost z (fits_size z h.1))) r)

read_limit : (k : Kind) (raw text : List ℕ) (v : Value) → Expands raw text → ReadsLimit k text (Ok v) → value_cost v ≤ 64 + 16 * length raw
read_limit kind.Str raw text v x r = read_count raw text v r
read_limit kind.List raw text v x r = read_count raw text v r
read_limit kind.Obj raw text v x r = absurd r
read_limit kind.Bool raw text v x r = read_value kind.Bool raw text v x r
read_limit kind.Int raw text v x r = read_value kind.Int raw text v x r
read_limit kind.Real raw text v x r = read_value kind.Real raw text v x r
read_limit kind.Enum raw text v x r = read_value kind.Enum raw text v x r
read_limit kind.Uri raw text v x r = read_value kind.Uri raw text v x r
read_limit kind.Abstime raw text v x r = read_value kind.Abstime raw text v x r
read_limit kind.Reltime raw text v x r = read_value kind.Reltime raw text v x r
read_limit kind.Date raw text v x r = read_value kind.Date raw text v x r
read_limit kind.Time raw text v x r = read_value kind.Time raw text v x r
read_limit kind.Op raw text v x r = absurd r
read_limit kind.Feed raw text v x r = absurd r
read_limit kind.Ref raw text v x r = absurd r
read_limit kind.Err raw text v x r = absurd r

-- ---- words

joined_more : (word : List ℕ) (words : List (List ℕ)) → length (joined (word ∷ words)) ≤ (length word + 1) + length (joined words)
joined_more word [] = omega arith
joined_more word (w ∷ words) = omega (arith, length-append word (32 ∷ joined (w ∷ words)))

words_short : (word cs : List ℕ) → length (joined (words_from word cs)) ≤ length word + length (encode_utf8_all cs)
words_short word [] = elim (eqb (length word) 0) as (λ v. length (joined (cond v [] (word ∷ []))) ≤ length word + length (encode_utf8_all [])) [
  | true ↦ omega arith
  | false ↦ omega arith
]
words_short word (c ∷ cs) = elim (is_blank c) as (λ v. length (joined (cond v (ended word (words_from [] cs)) (words_from (word ++ encode_utf8 c) cs))) ≤ length word + length (encode_utf8_all (c ∷ cs))) [
  | true ↦ (elim (eqb (length word) 0) as (λ v. length (joined (cond v (words_from [] cs) (word ∷ words_from [] cs))) ≤ length word + length (encode_utf8_all (c ∷ cs))) [
    | true ↦ omega (arith, words_short [] cs, length-append (encode_utf8 c) (encode_utf8_all cs))
    | false ↦ omega (arith, joined_more word (words_from [] cs), words_short [] cs, length-append (encode_utf8 c) (encode_utf8_all cs), length-encode c, (len_utf8_bounds c).0)
  ])
  | false ↦ omega (arith, words_short (word ++ encode_utf8 c) cs, length-append word (encode_utf8 c), length-append (encode_utf8 c) (encode_utf8_all cs))
]

words_cost : (raw text : List ℕ) → Expands raw text → cost (joined (words_of text)) ≤ 6 * length raw
words_cost raw text x =
    let bytes = ap length (encodes-chars text (expanded_utf8 raw text x)) in
    omega (arith, bytes, words_short [] (chars text), escaped_most (joined (words_of text)), expanded_short raw text x)

-- ---- parts

same_part : (p q : Part) (n : ℕ) → most q ≤ n → SameRead p q → most p ≤ n
same_part p q n le e = (let same : p ≡ q = cc in subst (λ (x : Part). most x ≤ n) (sym same) le)

read_status : (text : List ℕ) (p : Part) (r : Result Status ValueFault) → Ok p ≡ read_as (λ s. part.Status s) r → most p ≤ 79
read_status text p (Ok s) e = same_part p (part.Status s) 79 (omega (arith, status_cost s)) e
read_status text p (Err f) e = absurd (let no : Ok p ≡ Err f = e in cc)

pub parts_are_short : PartsAreShort
parts_are_short k (field.Text f) raw text p x r = same_part p (part.Text f text) _ (omega (arith, expanded_fits raw text x)) r
parts_are_short k (field.Words f) raw text p x r = same_part p (part.Words f (words_of text)) _ (omega (arith, words_cost raw text x)) r
parts_are_short k (field.Value reads.Null) raw text p x r = read_size (λ b. part.Null b) (ReadsBool text) most (79 + 16 * length raw) p (λ b h. omega arith) r
parts_are_short k (field.Value reads.Val) raw text p x r = read_size (λ v. part.Val v) (ReadsValue k text) most (79 + 16 * length raw) p (λ v h. omega (arith, read_value k raw text v x h)) r
parts_are_short k (field.Value reads.Max) raw text p x r = read_size (λ v. part.Max v) (ReadsLimit k text) most (79 + 16 * length raw) p (λ v h. omega (arith, read_limit k raw text v x h)) r
parts_are_short k (field.Value reads.Min) raw text p x r = read_size (λ v. part.Min v) (ReadsLimit k text) most (79 + 16 * length raw) p (λ v h. omega (arith, read_limit k raw text v x h)) r
parts_are_short k (field.Value reads.Precision) raw text p x r = read_size (λ z. part.Precision z) (ReadsInt text) most (79 + 16 * length raw) p (λ z h. omega (arith, int_cost z (fits_size z h.1))) r
parts_are_short k (field.Value reads.Status) raw text p x r = (let le = read_status text p (status_read text) r in omega (arith, le))
parts_are_short k (field.Value reads.Writable) raw text p x r = read_size (λ b. part.Writable b) (ReadsBool text) most (79 + 16 * length raw) p (λ b h. omega (arith, truth_cost b)) r
