-- What is printed of a value that is no text is ASCII.
use Rattle.std.proofs.Common.{◌≡◌, ℕ, suc, ◌+◌, ◌/◌, ◌%◌, ◌<◌, ◌≤◌, ◌⊎◌, inl, inr, Bool, true, false, ◌&&◌, ◌||◌, cond, eqb, List, [], ◌∷◌, ◌++◌, length, refl, sym, ap, ◌∙◌, subst, arith}
use Rattle.std.specs.Str.{encode_utf8_all}
use Rattle.std.specs.List.{AllByRecursion}
use Rattle.std.specs.Int.{IsInRange}
use Rattle.std.proofs.lemmas.Bool.Decides.{nat_tests, eqb_tells}
use Rattle.std.specs.Prelude.{ℤ, codes}
use Rattle.ob_scan.specs.Characters.{within}
use Rattle.ob_spelling.specs.White.{is_white, trim_start, trim_end, trim}
use Rattle.ob_spelling.specs.Numeral.{AreDigits, IsSign}
use Rattle.ob_spelling.specs.Places.{two_digits, minus}
use Rattle.ob_times.specs.CivilText.{date_text, clock_text, IsFraction}
use Rattle.ob_times.specs.InstantText.{zone_mark}
use Rattle.ob_times.specs.SpanText.{IsAmount, IsSeconds}
use Rattle.ob_values.specs.declared.value.Value.{Value}
use Rattle.ob_values.specs.declared.value.Value.TheVariants as value
use Rattle.ob_values.specs.Truth.{IsTruth}
use Rattle.ob_values.specs.Integer.{IsInteger}
use Rattle.ob_values.specs.Real.{RealParts, IsMantissa, IsExponent, IsReal}
use Rattle.ob_values.specs.Spelled.{printed, SpellsValue}
use Rattle.ob_values.specs.XmlText.{IsXmlChar, IsXmlText}
use Rattle.ob_documents.proofs.Characters.{encode_1}

-- from space to ~, or white space
abbrev pub is_ascii : ℕ → Bool
is_ascii b = within 0x20 0x7E b || is_white b

abbrev pub AreAscii : List ℕ → Type 0
AreAscii bytes = AllByRecursion (λ b. is_ascii b ≡ true) bytes

pub both : (xs ys : List ℕ) → AreAscii xs → AreAscii ys → AreAscii (xs ++ ys)
both [] ys h k = k
both (x ∷ xs) ys h k = (h.0, both xs ys h.1 k)

-- ---- as a text of XML characters

ascii_char : (c : ℕ) → is_ascii c ≡ true → IsXmlChar c
ascii_char c h =
    elim (eqb_tells c 9) [
      | inl e ↦ inl e.1
      | inr a ↦ elim (eqb_tells c 10) [
        | inl e ↦ inr (inl e.1)
        | inr b ↦ elim (eqb_tells c 13) [
          | inl e ↦ inr (inr (inl e.1))
          | inr d ↦ inr (inr (inr (inl (low c h a.0 b.0 d.0, high c h))))
        ]
      ]
    ]
  where
    low : (c : ℕ) → is_ascii c ≡ true → eqb c 9 ≡ false → eqb c 10 ≡ false → eqb c 13 ≡ false → 0x20 ≤ c
    low c h p q r = grind (arith, nat_tests)

    high : (c : ℕ) → is_ascii c ≡ true → c ≤ 0xD7FF
    high c h = grind (arith, nat_tests)

ascii_low : (c : ℕ) → is_ascii c ≡ true → c < 128
ascii_low c h = grind (arith, nat_tests)

ascii_chars : (cs : List ℕ) → AreAscii cs → AllByRecursion IsXmlChar cs
ascii_chars [] h = tt
ascii_chars (c ∷ cs) h = (ascii_char c h.0, ascii_chars cs h.1)

ascii_bytes : (cs : List ℕ) → AreAscii cs → encode_utf8_all cs ≡ cs
ascii_bytes [] h = refl
ascii_bytes (c ∷ cs) h = ap (λ (t : List ℕ). t ++ encode_utf8_all cs) (encode_1 c (ascii_low c h.0)) ∙ ap (λ (t : List ℕ). c ∷ t) (ascii_bytes cs h.1)

pub ascii_text : (cs : List ℕ) → AreAscii cs → IsXmlText cs
ascii_text cs h = (cs, ascii_chars cs h, ascii_bytes cs h)

-- ---- with white space round it

white_ascii : (c : ℕ) → is_white c ≡ true → is_ascii c ≡ true
white_ascii c e = by (within 0x20 0x7E c) (is_white c) e
  where
    by : (a b : Bool) → b ≡ true → (a || b) ≡ true
    by true b e = refl
    by false b e = e

start_by : (c : ℕ) (cs : List ℕ) (t : Bool) → is_white c ≡ t → (AreAscii (trim_start cs) → AreAscii cs) → AreAscii (cond t (trim_start cs) (c ∷ cs)) → AreAscii (c ∷ cs)
start_by c cs true e on h = (white_ascii c e, on h)
start_by c cs false e on h = h

start_ascii : (bytes : List ℕ) → AreAscii (trim_start bytes) → AreAscii bytes
start_ascii [] h = tt
start_ascii (c ∷ cs) h = start_by c cs (is_white c) refl (λ k. start_ascii cs k) h

empty : (xs : List ℕ) → eqb (length xs) 0 ≡ true → AreAscii xs
empty [] e = tt
empty (x ∷ xs) e = let n : eqb (suc (length xs)) 0 ≡ false = grind (arith, nat_tests) in let f : true ≡ false = sym e ∙ n in absurd (apart f)
  where
    apart : true ≡ false → ⊥
    apart f = absurd cc

end_by : (c : ℕ) (cs : List ℕ) (a b : Bool) → is_white c ≡ a → eqb (length (trim_end cs)) 0 ≡ b → (AreAscii (trim_end cs) → AreAscii cs) → AreAscii (cond (a && b) [] (c ∷ trim_end cs)) → AreAscii (c ∷ cs)
end_by c cs true true p q on h = (white_ascii c p, on (empty (trim_end cs) q))
end_by c cs true false p q on h = (h.0, on h.1)
end_by c cs false b p q on h = (h.0, on h.1)

end_ascii : (bytes : List ℕ) → AreAscii (trim_end bytes) → AreAscii bytes
end_ascii [] h = tt
end_ascii (c ∷ cs) h = end_by c cs (is_white c) (eqb (length (trim_end cs)) 0) refl refl (λ k. end_ascii cs k) h

trim_ascii : (bytes : List ℕ) → AreAscii (trim bytes) → AreAscii bytes
trim_ascii bytes h = start_ascii bytes (end_ascii (trim_start bytes) h)

-- ---- digits and marks

digit_ascii : (c : ℕ) → IsInRange 48 57 c → is_ascii c ≡ true
digit_ascii c h = let p = h.0 in let q = h.1 in grind (arith, nat_tests)

digits_ascii : (ds : List ℕ) → AreDigits ds → AreAscii ds
digits_ascii [] h = tt
digits_ascii (d ∷ ds) h = (digit_ascii d h.0, digits_ascii ds h.1)

pair_ascii : (n : ℕ) (rest : List ℕ) → n < 100 → AreAscii rest → AreAscii (two_digits n ++ rest)
pair_ascii n rest h r = (digit_ascii (48 + n / 10) (omega arith, omega arith), (digit_ascii (48 + n % 10) (omega arith, omega arith), r))

as_ascii : (xs ys : List ℕ) → xs ≡ ys → AreAscii ys → AreAscii xs
as_ascii xs ys e h = subst AreAscii (sym e) h

sign_ascii : (sign : List ℕ) (negative : Bool) → IsSign sign negative → AreAscii sign
sign_ascii sign true h = as_ascii sign (45 ∷ []) h (refl, tt)
sign_ascii sign false (inl h) = as_ascii sign [] h tt
sign_ascii sign false (inr h) = as_ascii sign (43 ∷ []) h (refl, tt)

minus_ascii : (b : Bool) → AreAscii (minus b)
minus_ascii true = (refl, tt)
minus_ascii false = tt

-- ---- the forms of values

truth_ascii : (text : List ℕ) (b : Bool) → IsTruth text b → AreAscii text
truth_ascii text true (inl e) = as_ascii text (codes "true") e (refl, (refl, (refl, (refl, tt))))
truth_ascii text true (inr e) = as_ascii text (codes "1") e (refl, tt)
truth_ascii text false (inl e) = as_ascii text (codes "false") e (refl, (refl, (refl, (refl, (refl, tt)))))
truth_ascii text false (inr e) = as_ascii text (codes "0") e (refl, tt)

integer_ascii : (text : List ℕ) (z : ℤ) → IsInteger text z → AreAscii text
integer_ascii text z h = as_ascii text (h.sign ++ h.digits) h.whole (both h.sign h.digits (sign_ascii h.sign h.negative h.is_sign) (digits_ascii h.digits h.numeral.1))

mantissa_ascii : (text whole fraction : List ℕ) → IsMantissa text whole fraction → AreAscii text
mantissa_ascii text whole fraction (inl h) = as_ascii text whole h.0 (digits_ascii whole h.1.1)
mantissa_ascii text whole fraction (inr h) = as_ascii text (whole ++ 46 ∷ fraction) h.0 (both whole (46 ∷ fraction) (digits_ascii whole h.1) (refl, digits_ascii fraction h.2.1))

exponent_ascii : (text : List ℕ) (negative : Bool) (digits : List ℕ) → IsExponent text negative digits → AreAscii text
exponent_ascii text negative digits (inl h) = as_ascii text [] h.0 tt
exponent_ascii text negative digits (inr h) =
    as_ascii text (h.mark ∷ (h.sign ++ digits)) h.whole (mark h.mark h.is_mark, both h.sign digits (sign_ascii h.sign negative h.is_sign) (digits_ascii digits h.numeral.1))
  where
    mark : (m : ℕ) → (m ≡ 101) ⊎ (m ≡ 69) → is_ascii m ≡ true
    mark m (inl e) = rw e refl
    mark m (inr e) = rw e refl

real_ascii : (text : List ℕ) (parts : RealParts) → IsReal text parts → AreAscii text
real_ascii text parts h =
    as_ascii text (h.sign ++ (h.mantissa ++ h.exponent)) h.text_is
    (both h.sign (h.mantissa ++ h.exponent) (sign_ascii h.sign parts.negative h.is_sign)
    (both h.mantissa h.exponent (mantissa_ascii h.mantissa parts.whole parts.fraction h.is_mantissa) (exponent_ascii h.exponent parts.exponent_negative parts.exponent h.is_exponent)))

date_ascii : (text : List ℕ) (y m d : ℕ) → y < 10_000 → m < 100 → d < 100 → text ≡ date_text y m d → AreAscii text
date_ascii text y m d year month day e =
    let last : AreAscii (two_digits d) = (digit_ascii (48 + d / 10) (omega arith, omega arith), (digit_ascii (48 + d % 10) (omega arith, omega arith), tt)) in
    as_ascii text (date_text y m d) e (pair_ascii (y / 100) (two_digits (y % 100) ++ 45 ∷ (two_digits m ++ 45 ∷ two_digits d)) (omega arith) (pair_ascii (y % 100) (45 ∷ (two_digits m ++ 45 ∷ two_digits d)) (omega arith) (refl, pair_ascii m (45 ∷ two_digits d) month (refl, last))))

fraction_ascii : (text : List ℕ) (nanos : ℕ) → IsFraction text nanos → AreAscii text
fraction_ascii text nanos (inl h) = as_ascii text [] h.0 tt
fraction_ascii text nanos (inr h) = as_ascii text (46 ∷ h.digits) h.text_is (refl, digits_ascii h.digits h.numeral.1)

time_ascii : (text fraction : List ℕ) (h m s nanos : ℕ) → h < 100 → m < 100 → s < 100 → IsFraction fraction nanos → text ≡ clock_text h m s fraction → AreAscii text
time_ascii text fraction h m s nanos hour minute second f e =
    as_ascii text (clock_text h m s fraction) e (pair_ascii h (58 ∷ (two_digits m ++ 58 ∷ (two_digits s ++ fraction))) hour (refl, pair_ascii m (58 ∷ (two_digits s ++ fraction)) minute (refl, pair_ascii s fraction second (fraction_ascii fraction nanos f))))

mark_ascii : (b : Bool) → is_ascii (zone_mark b) ≡ true
mark_ascii true = refl
mark_ascii false = refl

offset_ascii : (text : List ℕ) (west : Bool) (h m : ℕ) → h < 100 → m < 100 → text ≡ zone_mark west ∷ (two_digits h ++ 58 ∷ two_digits m) → AreAscii text
offset_ascii text west h m hours minutes e =
    let last : AreAscii (two_digits m) = (digit_ascii (48 + m / 10) (omega arith, omega arith), (digit_ascii (48 + m % 10) (omega arith, omega arith), tt)) in
    as_ascii text (zone_mark west ∷ (two_digits h ++ 58 ∷ two_digits m)) e (mark_ascii west, pair_ascii h (58 ∷ two_digits m) hours (refl, last))

zoned_ascii : (text front back date time : List ℕ) → text ≡ front ++ back → front ≡ date ++ 84 ∷ time → AreAscii date → AreAscii time → AreAscii back → AreAscii text
zoned_ascii text front back date time e f d t b = as_ascii text (front ++ back) e (both front back (as_ascii front (date ++ 84 ∷ time) f (both date (84 ∷ time) d (refl, t))) b)

amount_ascii : (letter : ℕ) (text : List ℕ) (n : ℕ) → is_ascii letter ≡ true → IsAmount letter text n → AreAscii text
amount_ascii letter text n e (inl h) = as_ascii text [] h.0 tt
amount_ascii letter text n e (inr h) = as_ascii text (h.digits ++ letter ∷ []) h.text_is (both h.digits (letter ∷ []) (digits_ascii h.digits h.numeral.1) (e, tt))

seconds_ascii : (text : List ℕ) (seconds nanos : ℕ) → IsSeconds text seconds nanos → AreAscii text
seconds_ascii text seconds nanos (inl h) = as_ascii text [] h.0 tt
seconds_ascii text seconds nanos (inr h) = as_ascii text (h.digits ++ (h.fraction ++ 83 ∷ [])) h.text_is (both h.digits (h.fraction ++ 83 ∷ []) (digits_ascii h.digits h.numeral.1) (both h.fraction (83 ∷ []) (fraction_ascii h.fraction nanos h.is_fraction) (refl, tt)))

clock_ascii : (text hours minutes seconds : List ℕ) (a b c d : ℕ) → IsAmount 72 hours a → IsAmount 77 minutes b → IsSeconds seconds c d → text ≡ 84 ∷ (hours ++ (minutes ++ seconds)) → AreAscii text
clock_ascii text hours minutes seconds a b c d h m s e =
    as_ascii text (84 ∷ (hours ++ (minutes ++ seconds))) e
    (refl, both hours (minutes ++ seconds) (amount_ascii 72 hours a refl h) (both minutes seconds (amount_ascii 77 minutes b refl m) (seconds_ascii seconds c d s)))

span_ascii : (text : List ℕ) (negative : Bool) (years months days clock : List ℕ) (a b c : ℕ) → IsAmount 89 years a → IsAmount 77 months b → IsAmount 68 days c → AreAscii clock → text ≡ minus negative ++ 80 ∷ (years ++ (months ++ (days ++ clock))) → AreAscii text
span_ascii text negative years months days clock a b c y m d k e =
    as_ascii text (minus negative ++ 80 ∷ (years ++ (months ++ (days ++ clock)))) e
    (both (minus negative) (80 ∷ (years ++ (months ++ (days ++ clock)))) (minus_ascii negative) (
      refl,
      both years (months ++ (days ++ clock)) (amount_ascii 89 years a refl y)
          (both months (days ++ clock) (amount_ascii 77 months b refl m)
          (both days clock (amount_ascii 68 days c refl d) k)),
    ))

-- ---- the printed text

trimmed : (bytes : List ℕ) → AreAscii (trim bytes) → IsXmlText bytes
trimmed bytes h = ascii_text bytes (trim_ascii bytes h)

-- a value that its printed text spells is printed in XML characters
pub printed_xml : (v : Value) → SpellsValue (printed v) v → IsXmlText (printed v)
printed_xml (value.Bool b) s = trimmed (printed (value.Bool b)) (truth_ascii (trim (printed (value.Bool b))) b s)
printed_xml (value.Int z) s = trimmed (printed (value.Int z)) (integer_ascii (trim (printed (value.Int z))) z s.0)
printed_xml (value.Real z) s = trimmed (printed (value.Real z)) (real_ascii (trim (printed (value.Real z))) s.0.parts s.0.is_real)
printed_xml (value.Str t) s = s.1
printed_xml (value.Enum t) s = s.1
printed_xml (value.Uri t) s = s.1
printed_xml (value.Abstime a) s =
    let z = s.1 in
    let l = s.1.is_local in
    let d = s.1.is_local.is_date in
    let t = s.1.is_local.is_time in
    let date = date_ascii l.date _ _ _ d.year_below d.month_below d.day_below d.text_is in
    let time = time_ascii l.time t.fraction _ _ _ _ t.hour_below t.minute_below t.second_below t.is_fraction t.text_is in
    let back : AreAscii z.back = elim z.is_zone [ inl utc ↦ as_ascii z.back (90 ∷ []) utc.0 (refl, tt) | inr o ↦ offset_ascii z.back _ _ _ o.hours_below o.minutes_below o.text_is ] in
    trimmed (printed (value.Abstime a)) (zoned_ascii (trim (printed (value.Abstime a))) z.front z.back l.date l.time z.text_is l.text_is date time back)
printed_xml (value.Reltime r) s =
    let p = s.1 in
    let clock : AreAscii p.clock = elim p.is_clock [ inl none ↦ as_ascii p.clock [] none.0 tt | inr c ↦ clock_ascii p.clock c.hours c.minutes c.seconds _ _ _ _ c.is_hours c.is_minutes c.is_seconds c.text_is ] in
    trimmed (printed (value.Reltime r)) (span_ascii (trim (printed (value.Reltime r))) _ p.years p.months p.days p.clock _ _ _ p.is_years p.is_months p.is_days clock p.text_is)
printed_xml (value.Date d) s =
    let t = s.1 in
    trimmed (printed (value.Date d)) (date_ascii (trim (printed (value.Date d))) _ _ _ t.year_below t.month_below t.day_below t.text_is)
printed_xml (value.Time n) s =
    let t = s.1 in
    trimmed (printed (value.Time n)) (time_ascii (trim (printed (value.Time n))) t.fraction _ _ _ _ t.hour_below t.minute_below t.second_below t.is_fraction t.text_is)
