-- Fields that are written, and the length that they tell.
use Rattle.std.proofs.Common.{◌≡◌, ℕ, ◌+◌, ◌%◌, ◌^◌, ◌<◌, ◌≤◌, IsTrue, Bool, true, false, not, ◌&&◌, List, [], ◌∷◌, ◌++◌, length, reverse, codes, decimal, Some, Result, Ok, refl, ap, ◌∙◌, arith, All, eq-eqb, lit<, nat_lt, nat_le}
use Rattle.std.proofs.lemmas.Bool.{cond-true, cond-false, and_parts, ltb-true, lt-ltb, le-leb}
use Rattle.std.proofs.lemmas.Bool.Decides.{nat_tests}
use Rattle.std.proofs.lemmas.Fmt.{decimal_by_steps, length-decimal-le, decimal_nonempty, decimal_is_IsNumeral}
use Rattle.std.proofs.lemmas.List.Elements.{All-nil, All-cons, All-head, All-weaker}
use Rattle.std.proofs.lemmas.List.Folds.{list_all-append}
use Rattle.std.proofs.lemmas.List.Sums.{AllPass-from_list_all}
use Rattle.std.specs.Char.{is_ascii_digit}
use Rattle.std.specs.List.{list_all}
use Rattle.httparse.specs.Grammar.{AllPass, IsToken, is_token, is_token_byte, is_value_byte, is_ows, skip_ows, trim_ows, crlf, Field, IsField}
use Rattle.httparse.proofs.TrimLemmas.{AllPass-reverse, trim_ows_space}
use Rattle.ob_values.proofs.Bools.{not_true}
use Rattle.ob_http.specs.declared.fault.FrameFault.{FrameFault}
use Rattle.ob_http.specs.Fields.{Fields, length_value, is_length, body_length, has_field, first_value, each_value, agreed, length_from, within}
use Rattle.ob_http.proofs.FieldLemmas.{fits}

-- ---- the digits of a number

digits_pass : (n : ℕ) → n < 2 ^ 64 → list_all is_ascii_digit (decimal n) ≡ true
digits_pass = decimal_by_steps (λ n ds. list_all is_ascii_digit ds ≡ true) one more
  where
    one : (n : ℕ) → n < 10 → list_all is_ascii_digit ((48 + n) ∷ []) ≡ true
    one n small = let digit : is_ascii_digit (48 + n) ≡ true = grind (arith, nat_tests) in rw digit refl

    more : (n : ℕ) (ds : List ℕ) → 10 ≤ n → list_all is_ascii_digit ds ≡ true → list_all is_ascii_digit (ds ++ ((48 + n % 10) ∷ [])) ≡ true
    more n ds large before = rw (list_all-append is_ascii_digit ds ((48 + n % 10) ∷ []), before) (one (n % 10) (omega arith))

abbrev no_ows : ℕ → Bool
no_ows b = not (is_ows b)

skip_none : (v : List ℕ) → AllPass no_ows v → skip_ows v ≡ v
skip_none [] all = refl
skip_none (b ∷ v) all = cond-false _ _ _ (not_true (is_ows b) (All-head (λ x. IsTrue (no_ows x)) b v all))

-- a value behind a space
trim_space : (v : List ℕ) → AllPass no_ows v → trim_ows (32 ∷ v) ≡ v
trim_space v all = trim_ows_space v (skip_none v all) (skip_none (reverse v) (AllPass-reverse no_ows v all))

digits_all : (n : ℕ) → n < 2 ^ 64 → All (λ b. IsTrue (is_ascii_digit b)) (decimal n)
digits_all n small = AllPass-from_list_all is_ascii_digit (decimal n) (digits_pass n small)

digit_no_ows : (b : ℕ) → IsTrue (is_ascii_digit b) → IsTrue (no_ows b)
digit_no_ows b digit = grind (arith, nat_tests)

digit_value_byte : (b : ℕ) → IsTrue (is_ascii_digit b) → IsTrue (is_value_byte b)
digit_value_byte b digit = grind (arith, nat_tests)

pub trim_digits : (n : ℕ) → n < 2 ^ 64 → trim_ows (32 ∷ decimal n) ≡ decimal n
trim_digits n small =
    trim_space (decimal n) (All-weaker (λ b. IsTrue (is_ascii_digit b)) (λ b. IsTrue (no_ows b)) digit_no_ows (decimal n) (digits_all n small))

-- the number that its digits write
pub length_written : (n : ℕ) → n < 10 ^ 18 → n < 2 ^ 64 → length_value (decimal n) ≡ Some n
length_written n short small =
    let some : nat_lt 0 (length (decimal n)) ≡ true = lt-ltb 0 (length (decimal n)) (decimal_nonempty n small) in
    let few : nat_le (length (decimal n)) 18 ≡ true = le-leb (length (decimal n)) 18 (length-decimal-le 18 n (lit< tt) short small) in
    let all = digits_pass n small in
    let passes : (nat_lt 0 (length (decimal n)) && nat_le (length (decimal n)) 18 && list_all is_ascii_digit (decimal n)) ≡ true = rw (some, few, all) refl in
    cond-true _ _ _ passes ∙ ap Some (decimal_is_IsNumeral n small).1

pub is_same_length : (value : List ℕ) (n : ℕ) → length_value value ≡ Some n → is_length n value ≡ true
is_same_length value n same = rw same (eq-eqb n n refl)

-- ---- the length that fields tell

pub length_told : (absent : Result ℕ FrameFault) (limit n : ℕ) (fs : Fields) (value : List ℕ)
    → has_field (codes "transfer-encoding") fs ≡ false → first_value (codes "content-length") fs ≡ Some value → length_value value ≡ Some n
    → each_value (codes "content-length") (is_length n) fs ≡ true → n ≤ limit → body_length absent limit fs ≡ Ok n
length_told absent limit n fs value plain first number each small =
    cond-false _ _ _ plain
    ∙ ap (within limit) (ap (length_from absent fs) first ∙ ap (agreed fs) number ∙ cond-true _ _ _ each) ∙ fits limit n small

-- ---- fields that are valid

pub token_of : (name : List ℕ) → is_token name ≡ true → IsToken name
token_of name told =
    let (some, all) = and_parts _ _ told in
    (ltb-true 0 (length name) some, AllPass-from_list_all is_token_byte name all)

-- a field as it is written
abbrev pub written : List ℕ → List ℕ → Field
written name value = record { name = name; raw = 32 ∷ value; end = crlf }

pub written_valid : (name value : List ℕ) → is_token name ≡ true → AllPass is_value_byte value → IsField (written name value)
written_valid name value token all = record {
  name = token_of name token;
  raw = All-cons (λ b. IsTrue (is_value_byte b)) 32 value refl all;
}

pub text_valid : (name value : List ℕ) → is_token name ≡ true → list_all is_value_byte value ≡ true → IsField (written name value)
text_valid name value token all = written_valid name value token (AllPass-from_list_all is_value_byte value all)

pub length_valid : (n : ℕ) → n < 2 ^ 64 → IsField (written (codes "Content-Length") (decimal n))
unfolding is_token_byte
length_valid n small =
    written_valid (codes "Content-Length") (decimal n) refl
    (All-weaker (λ b. IsTrue (is_ascii_digit b)) (λ b. IsTrue (is_value_byte b)) digit_value_byte (decimal n) (digits_all n small))

pub one_valid : (f : Field) → IsField f → All IsField (f ∷ [])
one_valid f valid = All-cons IsField f [] valid (All-nil IsField)
