-- Words and numbers at the front of bytes.
use Rattle.std.proofs.Common.{◌≡◌, ◌≢◌, ℕ, zero, suc, ◌^◌, ◌<◌, Bool, true, false, ◌&&◌, not, cond, eqb, List, [], ◌∷◌, ◌++◌, length, get_or, decimal, Option, Some, None, MatchOption, Bor, option_map, refl, sym, ap, subst, ◌∙◌, append_assoc, arith}
use Rattle.std.specs.Prelude.{nat_lt}
use Rattle.std.specs.Char.{is_ascii_digit}
use Rattle.std.proofs.lemmas.Bool.{eqb-true}
use Rattle.std.proofs.lemmas.Bool.Decides.{nat_tests}
use Rattle.std.proofs.lemmas.Fmt.{decimal_nonempty, first_decimal, decimal_digit, digits_decimal, digits_value-decimal, decimal-digits_value}
use Rattle.ob_spelling.specs.DigitRun.{digits_front, after_digits}
use Rattle.ob_spelling.specs.Numeral.{number}
use Rattle.ob_spelling.proofs.DigitsLemmas.{splits_digits, front_and_after, front_digits, digits_front-other}
use Rattle.ob_spelling.proofs.NumeralLemmas.{decimal_numerals}
use Rattle.std.proofs.lemmas.Option.{some_pair_parts}
use Rattle.ob_values.proofs.Bools.{both_true}
use Rattle.ob_record.specs.Parts.{number_word}
use Rattle.ob_record.specs.Reading.{◌>>=◌, after, is_plain, behind, number_at}

-- the value of a step that found something
pub bind_some : {A B : Type 0} (o : Option A) (f : A → Option B) (y : B) → (o >>= f) ≡ Some y → (x : A) × (o ≡ Some x) × (f x ≡ Some y)
bind_some (Some x) f y e = (x, refl, e)
bind_some None f y e = absurd cc

-- a choice that found something
pub chosen : {A : Type 0} (b : Bool) (x : Option A) (y : A) → cond b x None ≡ Some y → (b ≡ true) × (x ≡ Some y)
chosen true x y e = (refl, e)
chosen false x y e = absurd cc

pub skipped : {A : Type 0} (b : Bool) (x : Option A) (y : A) → cond b None x ≡ Some y → (b ≡ false) × (x ≡ Some y)
skipped true x y e = absurd cc
skipped false x y e = (refl, e)

-- ---- words

same : (n : ℕ) → eqb n n ≡ true
same n = grind (arith, nat_tests)

pub after_again : (word rest : List ℕ) → after word (word ++ rest) ≡ Some rest
after_again [] rest = refl
after_again (w ∷ ws) rest = rw (same w) (after_again ws rest)

pub after_found : (word bytes rest : List ℕ) → after word bytes ≡ Some rest → bytes ≡ word ++ rest
after_found [] bytes rest e = (let one : Some bytes ≡ Some rest = e in cc)
after_found (w ∷ ws) [] rest e = absurd cc
after_found (w ∷ ws) (b ∷ bs) rest e =
    let c = chosen (eqb w b) (after ws bs) rest e in
    let first : w ≡ b = eqb-true w b c.0 in
    rw (← first) (ap (λ (l : List ℕ). w ∷ l) (after_found ws bs rest c.1))

-- what a prefix that was taken away says
pub after_told : (word bytes : List ℕ) (r : Option (Bor (List ℕ))) → MatchOption r ((rest : List ℕ) → bytes ≢ word ++ rest) (λ x. bytes ≡ word ++ x.now)
    → option_map (λ (x : Bor (List ℕ)). x.now) r ≡ after word bytes
after_told word bytes (Some x) told = rw told (sym (after_again word x.now))
after_told word bytes None told =
    elim (after word bytes) as (λ o. after word bytes ≡ o → None ≡ o) [
      | None ↦ λ is. refl
      | Some rest ↦ λ is. absurd (told rest (after_found word bytes rest is))
    ] refl

-- ---- numbers

pub behind_found : (end : ℕ) (bytes rest : List ℕ) → behind end bytes ≡ Some rest → bytes ≡ end ∷ rest
behind_found end [] rest e = absurd cc
behind_found end (b ∷ bytes) rest e =
    let c = chosen (eqb b end) (Some bytes) rest e in
    let first : b ≡ end = eqb-true b end c.0 in
    let more : bytes ≡ rest = cc c.1 in
    rw (first, more) refl

behind_again : (end : ℕ) (rest : List ℕ) → behind end (end ∷ rest) ≡ Some rest
behind_again end rest = rw (same end) refl

plain_is : (ds : List ℕ) → is_plain ds ≡ true → (0 < length ds) × (get_or ds 0 0 ≡ 48 → length ds ≡ 1)
plain_is [] e = absurd cc
plain_is (d ∷ []) e = (omega arith, λ zero. refl)
plain_is (d ∷ e ∷ ds) is = (omega arith, λ zero. absurd (let first : d ≡ 48 = zero in let no : not (eqb 48 48) ≡ true = subst (λ (k : ℕ). not (eqb k 48) ≡ true) first is in cc no))

plain_first : (ds : List ℕ) → 0 < length ds → 48 < get_or ds 0 0 → is_plain ds ≡ true
plain_first [] some above = absurd (omega arith)
plain_first (d ∷ []) some above = refl
plain_first (d ∷ e ∷ ds) some above = (let other : eqb d 48 ≡ false = grind (arith, nat_tests) in rw other refl)

plain_decimal : (n : ℕ) → n < 2 ^ 63 → is_plain (decimal n) ≡ true
plain_decimal zero small = rw (decimal_digit 0 (omega arith)) refl
plain_decimal (suc n) small = plain_first (decimal (suc n)) (decimal_nonempty (suc n) (omega arith)) (first_decimal (suc n) (omega arith) (omega arith))

pub number_found : (end : ℕ) (bytes : List ℕ) (n : ℕ) (rest : List ℕ) → number_at end bytes ≡ Some (n, rest) → (n < 2 ^ 63) × (bytes ≡ number_word n end ++ rest)
unfolding number_at
number_found end bytes n rest e =
    let ds = digits_front bytes in
    let c = chosen (is_plain ds && nat_lt (number ds) (2 ^ 63)) (behind end (after_digits bytes) >>= λ (r : List ℕ). Some (number ds, r)) (n, rest) e in
    let tests = both_true (is_plain ds) (nat_lt (number ds) (2 ^ 63)) c.0 in
    let b = bind_some (behind end (after_digits bytes)) (λ (r : List ℕ). Some (number ds, r)) (n, rest) c.1 in
    let parts = some_pair_parts (number ds) n b.0 rest b.2 in
    let plain = plain_is ds tests.0 in
    let small : number ds < 2 ^ 63 = grind (arith, nat_tests) in
    let spelled : decimal (number ds) ≡ ds = decimal-digits_value decimal_numerals ds (front_digits bytes) plain.0 plain.1 (omega arith) in
    let ended : after_digits bytes ≡ end ∷ rest = behind_found end (after_digits bytes) b.0 b.1 ∙ ap (λ (r : List ℕ). end ∷ r) parts.1 in (
      rw (← parts.0) small,
      front_and_after bytes ∙ ap (λ (l : List ℕ). ds ++ l) ended ∙ ap (λ (l : List ℕ). l ++ end ∷ rest) (sym spelled ∙ ap decimal parts.0) ∙ sym (append_assoc (decimal n) (end ∷ []) rest),
    )

pub number_again : (end n : ℕ) (rest : List ℕ) → is_ascii_digit end ≡ false → n < 2 ^ 63 → number_at end (number_word n end ++ rest) ≡ Some (n, rest)
unfolding number_at
number_again end n rest other small =
    let wide : n < 2 ^ 64 = omega arith in
    let split = splits_digits (decimal n) (end ∷ rest) (digits_decimal decimal_numerals n wide) (digits_front-other end rest other) in
    let value : number (decimal n) ≡ n = digits_value-decimal decimal_numerals n wide in
    let test : nat_lt n (2 ^ 63) ≡ true = grind (arith, nat_tests) in
    ap (number_at end) (append_assoc (decimal n) (end ∷ []) rest)
    ∙ rw (split.digits_are, split.rest_is, value, plain_decimal n small, test, behind_again end rest) refl
