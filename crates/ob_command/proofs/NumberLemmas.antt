-- Texts that are digits.
use Rattle.std.proofs.Common.{arith, ◌≡◌, ℕ, ◌<◌, ◌≤◌, ◌^◌, true, false, ◌&&◌, min, List, [], ◌∷◌, length, Some, None, refl, ap, subst, ◌∙◌}
use Rattle.std.specs.Prelude.{nat_le, nat_lt, if◌then◌else◌}
use Rattle.std.specs.Char.{is_ascii_digit}
use Rattle.std.specs.List.{list_all}
use Rattle.std.proofs.Math.Nat.{pow-le-pow_right}
use Rattle.std.proofs.lemmas.Bool.Decides.{nat_tests}
use Rattle.ob_spelling.specs.Numeral.{number, capped}
use Rattle.ob_spelling.specs.DigitRun.{digits_front, after_digits}
use Rattle.ob_spelling.proofs.DigitsLemmas.{front_digits}
use Rattle.ob_spelling.proofs.NumberLemmas.{number_below}
use Rattle.ob_command.specs.Number.{is_numeral, number_up_to}

-- nothing follows the digits exactly where all are digits
pub nothing_after : (text : List ℕ) → after_digits text ≡ [] → (list_all is_ascii_digit text ≡ true) × (digits_front text ≡ text)
unfolding after_digits digits_front
nothing_after [] none = (refl, refl)
nothing_after (c ∷ cs) none =
    elim (is_ascii_digit c) as (λ t. is_ascii_digit c ≡ t → (list_all is_ascii_digit (c ∷ cs) ≡ true) × (digits_front (c ∷ cs) ≡ c ∷ cs)) [
      | true ↦ λ is. let rest = nothing_after cs (rw is at none) in (rw is rest.0, rw is (ap (λ (ds : List ℕ). c ∷ ds) rest.1))
      | false ↦ λ is. let no : c ∷ cs ≡ [] = rw is at none in cc
    ] refl

pub something_after : (text : List ℕ) → 1 ≤ length (after_digits text) → list_all is_ascii_digit text ≡ false
unfolding after_digits
something_after [] some = absurd (omega arith)
something_after (c ∷ cs) some =
    elim (is_ascii_digit c) as (λ t. is_ascii_digit c ≡ t → list_all is_ascii_digit (c ∷ cs) ≡ false) [
      | true ↦ λ is. rw is (something_after cs (rw is at some))
      | false ↦ λ is. rw is refl
    ] refl

pub empty : (xs : List ℕ) → length xs < 1 → xs ≡ []
empty [] small = refl
empty (x ∷ xs) small = absurd (omega arith)

module _ (most : ℕ) (text : List ℕ) (n : ℕ) (is : n ≡ capped (number (digits_front text))) where
  -- a number of at most 18 digits isn't capped
  same : length text ≤ 18 → digits_front text ≡ text → n ≡ number text
  same few all =
      let below : number text < 10 ^ length text = subst (λ (ds : List ℕ). number ds < 10 ^ length ds) all (number_below (digits_front text) (front_digits text)) in
      let at_most : 10 ^ length text ≤ 10 ^ 18 = pow-le-pow_right (omega arith) few in
      let here : n ≡ min (number text) (10 ^ 19) = is ∙ ap (λ (ds : List ℕ). capped (number ds)) all in
      omega arith

  pub numbered : 0 < length text → length text ≤ 18 → after_digits text ≡ [] → n ≤ most → Some n ≡ number_up_to most text
  numbered some few none le =
      let all = nothing_after text none in
      let same = same few all.1 in
      let is_some : nat_lt 0 (length text) ≡ true = grind (arith, nat_tests) in
      let is_few : nat_le (length text) 18 ≡ true = grind (arith, nat_tests) in
      let fits : nat_le (number text) most ≡ true = grind (arith, nat_tests) in
      rw is_some (rw is_few (rw all.0 (rw fits (ap (λ k. Some k) same))))

  pub too_large : length text ≤ 18 → after_digits text ≡ [] → most < n → None ≡ number_up_to most text
  too_large few none more =
      let all = nothing_after text none in
      let same = same few all.1 in
      let no : nat_le (number text) most ≡ false = grind (arith, nat_tests) in
      elim (is_numeral text) as (λ t. None ≡ (if t && nat_le (number text) most then Some (number text) else None)) [
        | true ↦ rw no refl
        | false ↦ refl
      ]

pub other_bytes : (most : ℕ) (text : List ℕ) → list_all is_ascii_digit text ≡ false → None ≡ number_up_to most text
other_bytes most text differs =
    rw differs (elim (nat_lt 0 (length text) && nat_le (length text) 18) as (λ t. None ≡ (if (t && false) && nat_le (number text) most then Some (number text) else None)) [
      | true ↦ refl
      | false ↦ refl
    ])
