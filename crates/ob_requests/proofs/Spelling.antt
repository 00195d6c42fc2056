-- The decimal spelling of a number of 64 digits at most is digits of which the first isn't 0, and only such a text is one.
use Rattle.std.proofs.Common.{◌≡◌, ◌≢◌, ℕ, zero, suc, ◌+◌, ◌-◌, ◌*◌, ◌/◌, ◌%◌, ◌^◌, ◌<◌, ◌≤◌, Bool, true, false, cond, ◌&&◌, ◌==◌, List, [], ◌∷◌, ◌++◌, length, get_or, Some, None, Result, Ok, Err, refl, sym, ap, ◌∙◌, subst, append_assoc, arith}
use Rattle.std.specs.Prelude.{nat_le}
use Rattle.std.specs.Str.{all_ascii_digits}
use Rattle.std.specs.List.{list_all}
use Rattle.std.specs.Char.{digit_value, is_ascii_digit}
use Rattle.std.specs.Fmt.{decimal, digits, digits_onto, digit_glyph}
use Rattle.std.specs.Str.Parse.{AllDigits, digits_value, digits_value_after, ParsesUnsigned}
use Rattle.std.specs.Option.{MatchOption}
use Rattle.std.specs.Result.{OkIff, result_ok}
use Rattle.std.proofs.lemmas.Bool.Decides.{nat_tests}
use Rattle.std.proofs.lemmas.List.{append-nil}
use Rattle.std.proofs.lemmas.Slice.Eq.{bytes_eq-Decides}
use Rattle.std.proofs.lemmas.Int.Digits.{digits_value-lt}
use Rattle.std.proofs.lemmas.Fmt.{decimal_digit, decimal_step_wide, decimal_by_steps_wide}
use Rattle.std.proofs.lemmas.Str.{digit_value_digit}
use Rattle.std.proofs.lemmas.Str.Parse.{IsNumeralModel, numerals_by_weight, tells_all_ascii_digits, digit_from_value, parse_digits}
use Rattle.std.proofs.Math.Nat.{pow-le-pow_right, one-le-pow, mul-le-mul_left, mul_comm}
use Rattle.ob_site_rules.specs.Paths.{digits_number, number_spelled}
use Rattle.ob_requests.specs.Numbers.{is_number}

pub own : IsNumeralModel (λ ds. all_ascii_digits ds ≡ true) digits_number
own = numerals_by_weight _ tells_all_ascii_digits digits_number (record { empty = refl; more = λ c cs r. refl })

le_value_after : (n : ℕ) (ds : List ℕ) → n ≤ digits_value_after 10 n ds
le_value_after n [] = omega arith
le_value_after n (c ∷ cs) = omega (arith, le_value_after (n * 10 + digit_value c) cs)

spelled_after : (n : ℕ) (ds : List ℕ) → 0 < n → AllDigits 10 ds → digits_value_after 10 n ds < 10 ^ 64 → decimal (digits_value_after 10 n ds) ≡ decimal n ++ ds
spelled_after n [] some d small = sym (append-nil (decimal n))
spelled_after n (c ∷ cs) some d small =
    let m : ℕ = n * 10 + digit_value c in
    let k = digit_value_digit c (digit_from_value c d.0) in
    let front : m / 10 ≡ n = omega (arith, d.0) in
    let end : 48 + m % 10 ≡ c = omega (arith, d.0) in
    spelled_after m cs (omega arith) d.1 small
    ∙ ap (λ x. x ++ cs) (decimal_step_wide m (omega arith) (omega (arith, le_value_after m cs)) ∙ (λ i. decimal (front i) ++ (end i ∷ [])))
    ∙ append_assoc (decimal n) (c ∷ []) cs

-- digits of which the first isn't 0 are the spelling of their number
spelled_digits : (c : ℕ) (cs : List ℕ) → AllDigits 10 (c ∷ cs) → c ≢ 48 → digits_value 10 (c ∷ cs) < 10 ^ 64 → decimal (digits_value 10 (c ∷ cs)) ≡ c ∷ cs
spelled_digits c cs d first small =
    let k = digit_value_digit c (digit_from_value c d.0) in
    let is : 48 + (0 * 10 + digit_value c) ≡ c = omega arith in
    spelled_after (0 * 10 + digit_value c) cs (omega arith) d.1 small
    ∙ ap (λ x. x ++ cs) (decimal_digit (0 * 10 + digit_value c) (omega (arith, d.0)) ∙ ap (λ x. x ∷ []) is)

below_limit : (ds : List ℕ) → AllDigits 10 ds → length ds ≤ 64 → digits_value 10 ds < 10 ^ 64
below_limit ds d short =
    let most : 10 ^ length ds ≤ 10 ^ 64 = pow-le-pow_right (omega arith) short in
    omega (arith, digits_value-lt 10 ds d, most)

-- each glyph of a decimal is a digit, and there are 64 at most
glyph_digit : (n : ℕ) (acc : List ℕ) → all_ascii_digits acc ≡ true → all_ascii_digits (digit_glyph false (n % 10) ∷ acc) ≡ true
glyph_digit n acc h = let m : n % 10 < 10 = omega arith in grind (arith, nat_tests, h, m)

onto_digits : (k n : ℕ) (acc : List ℕ) → all_ascii_digits acc ≡ true → all_ascii_digits (digits_onto k 10 false n acc) ≡ true
onto_digits zero n acc h = h
onto_digits (suc k) n acc h =
    elim (n / 10 == 0) as (λ b. all_ascii_digits (cond b (digit_glyph false (n % 10) ∷ acc) (digits_onto k 10 false (n / 10) (digit_glyph false (n % 10) ∷ acc))) ≡ true) [
      | true ↦ glyph_digit n acc h
      | false ↦ onto_digits k (n / 10) (digit_glyph false (n % 10) ∷ acc) (glyph_digit n acc h)
    ]

onto_short : (k n : ℕ) (acc : List ℕ) → length (digits_onto k 10 false n acc) ≤ k + length acc
onto_short zero n acc = omega arith
onto_short (suc k) n acc =
    let rest = onto_short k (n / 10) (digit_glyph false (n % 10) ∷ acc) in
    elim (n / 10 == 0) as (λ b. length (cond b (digit_glyph false (n % 10) ∷ acc) (digits_onto k 10 false (n / 10) (digit_glyph false (n % 10) ∷ acc))) ≤ suc k + length acc) [
      | true ↦ omega arith
      | false ↦ omega (arith, rest)
    ]

decimal_onto : (n : ℕ) → digits_onto 64 10 false n [] ≡ decimal n
unfolding digits
decimal_onto n = refl

decimal_digits : (n : ℕ) → all_ascii_digits (decimal n) ≡ true
decimal_digits n = subst (λ ds. all_ascii_digits ds ≡ true) (decimal_onto n) (onto_digits 64 n [] refl)

decimal_short : (n : ℕ) → length (decimal n) ≤ 64
decimal_short n = subst (λ ds. length ds ≤ 64) (decimal_onto n) (omega (arith, onto_short 64 n []))

first_of_decimal : (n : ℕ) → n < 10 ^ 64 → (0 < length (decimal n)) × (0 < n → 48 < get_or (decimal n) 0 0)
first_of_decimal n small = decimal_by_steps_wide (λ m ds. (0 < length ds) × (0 < m → 48 < get_or ds 0 0)) (λ m l. (omega arith, λ a. omega arith)) more n small
  where
    more : (m : ℕ) (ds : List ℕ) → 10 ≤ m → (0 < length ds) × (0 < m / 10 → 48 < get_or ds 0 0) → (0 < length (ds ++ ((48 + m % 10) ∷ []))) × (0 < m → 48 < get_or (ds ++ ((48 + m % 10) ∷ [])) 0 0)
    more m [] l h = absurd (omega (arith, h.0))
    more m (d ∷ ds) l h = (omega arith, λ a. h.1 (omega arith))

all_digits : (t : List ℕ) → list_all is_ascii_digit t ≡ all_ascii_digits t
all_digits [] = refl
all_digits (c ∷ cs) = ap (λ b. is_ascii_digit c && b) (all_digits cs)

-- a number as it is spelled
pub spelled : (t : List ℕ) → is_number t ≡ true → (decimal (digits_number t) ≡ t) × (1 ≤ digits_number t)
spelled [] h = absurd (cc)
spelled (c ∷ cs) h = (
  ap decimal (own.same (c ∷ cs) d) ∙ spelled_digits c cs d first (below_limit (c ∷ cs) d short),
  some,
)
  where
    first : c ≢ 48
    first = grind (arith, nat_tests, h)

    short : length (c ∷ cs) ≤ 64
    short = grind (arith, nat_tests, h)

    listed : list_all is_ascii_digit (c ∷ cs) ≡ true
    listed = grind (arith, nat_tests, h)

    all : all_ascii_digits (c ∷ cs) ≡ true
    all = sym (all_digits (c ∷ cs)) ∙ listed

    d : AllDigits 10 (c ∷ cs)
    d = own.to (c ∷ cs) all

    apart : 1 ≤ c - 48
    apart = let k = digit_value_digit c (digit_from_value c d.0) in omega (arith, digit_from_value c d.0, first)

    some : 1 ≤ digits_number (c ∷ cs)
    some = omega (arith, mul-le-mul_left (10 ^ length cs) apart, one-le-pow (length cs) 10 (omega arith), mul_comm (10 ^ length cs) (c - 48))

pub is_spelled : (t : List ℕ) → decimal (digits_number t) ≡ t → 1 ≤ digits_number t → is_number t ≡ true
is_spelled [] e some = absurd (omega arith)
is_spelled (c ∷ cs) e some = grind (arith, nat_tests, listed, short, first)
  where
    all : all_ascii_digits (c ∷ cs) ≡ true
    all = subst (λ ds. all_ascii_digits ds ≡ true) e (decimal_digits (digits_number (c ∷ cs)))

    listed : list_all is_ascii_digit (c ∷ cs) ≡ true
    listed = all_digits (c ∷ cs) ∙ all

    short : length (c ∷ cs) ≤ 64
    short = subst (λ ds. length ds ≤ 64) e (decimal_short (digits_number (c ∷ cs)))

    small : digits_number (c ∷ cs) < 10 ^ 64
    small = let d = own.to (c ∷ cs) all in omega (arith, below_limit (c ∷ cs) d short, own.same (c ∷ cs) d)

    first : 48 < c
    first = subst (λ ds. 48 < get_or ds 0 0) e ((first_of_decimal (digits_number (c ∷ cs)) small).1 (omega (arith, some)))

pub number_spelled_is : (t : List ℕ) → number_spelled t ≡ cond (is_number t) (Some (digits_number t)) None
number_spelled_is t = go (is_number t) refl
  where
    both : (a b : Bool) → a ≡ true → b ≡ true → (a && b) ≡ true
    both a b h k = rw (h, k) refl

    parts : (a b : Bool) → (a && b) ≡ true → (a ≡ true) × (b ≡ true)
    parts true b h = (refl, h)
    parts false b h = absurd (cc)

    at_least : (n : ℕ) → 1 ≤ n → nat_le 1 n ≡ true
    at_least n h = grind (arith, nat_tests, h)

    from_at_least : (n : ℕ) → nat_le 1 n ≡ true → 1 ≤ n
    from_at_least n h = grind (arith, nat_tests, h)

    chosen : (b : Bool) → (b ≡ true → ⊥) → cond b (Some (digits_number t)) None ≡ None
    chosen true never = absurd (never refl)
    chosen false never = refl

    go : (b : Bool) → is_number t ≡ b → number_spelled t ≡ cond b (Some (digits_number t)) None
    go true is =
        let s = spelled t is in
        ap (λ b. cond b (Some (digits_number t)) None) (both _ _ ((bytes_eq-Decides _ _).1 s.0) (at_least _ s.1))
    go false isnt = chosen _ (λ h.
        let p = parts _ _ h in
        let is : is_number t ≡ true = is_spelled t ((bytes_eq-Decides _ _).0 p.0) (from_at_least _ p.1) in
        absurd (cc))

-- the number of digits that are no more than 64 bits
pub digits_of_number : (t : List ℕ) → is_number t ≡ true → (all_ascii_digits t ≡ true) × (0 < length t)
digits_of_number t h =
    let listed : list_all is_ascii_digit t ≡ true = grind (arith, nat_tests, h) in
    (sym (all_digits t) ∙ listed, grind (arith, nat_tests, h))

pub spelled_no : (t : List ℕ) → is_number t ≡ false → number_spelled t ≡ None
spelled_no t h = number_spelled_is t ∙ ap (λ b. cond b (Some (digits_number t)) None) h

pub spelled_yes : (t : List ℕ) → is_number t ≡ true → number_spelled t ≡ Some (digits_number t)
spelled_yes t h = number_spelled_is t ∙ ap (λ b. cond b (Some (digits_number t)) None) h

-- what `parse` reads of it
pub parsed : {E : Type 0} (t : List ℕ) (r : Result ℕ E) → ParsesUnsigned 64 10 t r → is_number t ≡ true → MatchOption (result_ok r) (2 ^ 64 ≤ digits_number t) (λ n. n ≡ digits_number t)
parsed {E} t r h is = go r (parse_digits own 64 t r h (digits_of_number t is).0)
  where
    go : (r : Result ℕ E) → OkIff r ((0 < length t) × (digits_number t < 2 ^ 64)) (digits_number t) → MatchOption (result_ok r) (2 ^ 64 ≤ digits_number t) (λ n. n ≡ digits_number t)
    go (Ok n) h = h.1
    go (Err e) h = let never : digits_number t < 2 ^ 64 → ⊥ = λ l. h ((digits_of_number t is).1, l) in omega (arith, never)
