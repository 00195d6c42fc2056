-- Lists of values under keys, changed one after the other.
use Rattle.std.proofs.Common.{◌≡◌, ℕ, zero, suc, ◌+◌, ◌-◌, ◌≤◌, Bool, true, false, List, [], ◌∷◌, map, min, length, take, drop, refl, sym, ap, ap₂, ◌∙◌, arith, add-one}
use Rattle.std.specs.Prelude.{Option, Some, None, option_map, nat_le, position, slice_get}
use Rattle.std.proofs.lemmas.Bool.Decides.{nat_tests}
use Rattle.std.specs.Map.{keys_of, values_of}
use Rattle.indexmap.specs.IndexMap.{set_value_at}

-- the first so many values changed
abbrev pub altered : {K X : Type 0} → (X → X) → ℕ → List (K × X) → List (K × X)
altered f zero es = es
altered f (suc n) [] = []
altered f (suc n) (e ∷ es) = (e.0, f e.1) ∷ altered f n es

module _ {K X : Type 0} (f : X → X) where
  altered_step : (n : ℕ) (es : List (K × X)) (v : X) → slice_get (values_of (altered f n es)) n ≡ Some v → set_value_at (altered f n es) n (f v) ≡ altered f (suc n) es
  altered_step zero [] v at = refl
  altered_step zero (e ∷ es) v at =
      let same : e.1 ≡ v = cc in
      ap (λ (w : X). (e.0, f w) ∷ es) (sym same)
  altered_step (suc n) [] v at = refl
  altered_step (suc n) (e ∷ es) v at = ap (λ (xs : List (K × X)). (e.0, f e.1) ∷ xs) (altered_step n es v at)

  pub altered_next : (n : ℕ) (es : List (K × X)) (v : X) → slice_get (values_of (altered f n es)) n ≡ Some v → set_value_at (altered f n es) n (f v) ≡ altered f (n + 1) es
  altered_next n es v at = altered_step n es v at ∙ ap (λ k. altered f k es) (sym (add-one n))

  -- the next value changed, in what the changes so far left
  pub altered_on : (n : ℕ) (es ds : List (K × X)) (v w : X) → ds ≡ altered f n es → slice_get (values_of ds) n ≡ Some v → w ≡ f v → set_value_at ds n w ≡ altered f (n + 1) es
  altered_on n es ds v w left at is =
      ap₂ (λ (xs : List (K × X)) (x : X). set_value_at xs n x) left is
      ∙ altered_next n es v (ap (λ (xs : List (K × X)). slice_get (values_of xs) n) (sym left) ∙ at)

  pub altered_all : (es : List (K × X)) → altered f (length es) es ≡ map (λ e. (e.0, f e.1)) es
  altered_all [] = refl
  altered_all (e ∷ es) = ap (λ (xs : List (K × X)). (e.0, f e.1) ∷ xs) (altered_all es)

  -- all are changed
  pub altered_end : (n : ℕ) (es ds : List (K × X)) → n ≡ length es → ds ≡ altered f n es → ds ≡ map (λ e. (e.0, f e.1)) es
  altered_end n es ds end left = left ∙ ap (λ k. altered f k es) end ∙ altered_all es

  pub length_altered : (n : ℕ) (es : List (K × X)) → length (altered f n es) ≡ length es
  length_altered zero es = refl
  length_altered (suc n) [] = refl
  length_altered (suc n) (e ∷ es) = ap suc (length_altered n es)

  pub keys_changed : (es : List (K × X)) → keys_of (map (λ e. (e.0, f e.1)) es) ≡ keys_of es
  keys_changed [] = refl
  keys_changed (e ∷ es) = ap (λ (ks : List K). e.0 ∷ ks) (keys_changed es)

  pub values_changed : (es : List (K × X)) → values_of (map (λ e. (e.0, f e.1)) es) ≡ map f (values_of es)
  values_changed [] = refl
  values_changed (e ∷ es) = ap (λ (xs : List X). f e.1 ∷ xs) (values_changed es)

pub values_take : {K X : Type 0} (n : ℕ) (es : List (K × X)) → values_of (take n es) ≡ take n (values_of es)
values_take zero es = refl
values_take (suc n) [] = refl
values_take (suc n) (e ∷ es) = ap (λ xs. e.1 ∷ xs) (values_take n es)

-- the first that passes from a place on
module _ {X : Type 0} (p : X → Bool) where
  drop_past : (xs : List X) (n : ℕ) → length xs ≤ n → drop n xs ≡ []
  drop_past [] zero le = refl
  drop_past [] (suc n) le = refl
  drop_past (x ∷ xs) zero le = absurd (omega arith)
  drop_past (x ∷ xs) (suc n) le = drop_past xs n (omega arith)

  pub found_from : (xs : List X) (place from : ℕ) (r : Option ℕ) → from ≡ min place (length xs) → r ≡ position p (drop from xs)
      → option_map (λ n. from + n) r ≡ option_map (λ n. place + n) (position p (drop place xs))
  found_from xs place from r least found = go (nat_le place (length xs)) refl
    where
      nowhere : (ys : List X) → ys ≡ [] → position p ys ≡ None
      nowhere ys none = ap (position p) none

      go : (b : Bool) → nat_le place (length xs) ≡ b → option_map (λ n. from + n) r ≡ option_map (λ n. place + n) (position p (drop place xs))
      go true le =
          let same : from ≡ place = grind (arith, nat_tests) in
          ap (option_map (λ n. from + n)) found ∙ ap (λ k. option_map (λ n. k + n) (position p (drop k xs))) same
      go false gt =
          let far : length xs ≤ place = grind (arith, nat_tests) in
          let here : length xs ≤ from = grind (arith, nat_tests) in
          ap (option_map (λ n. from + n)) (found ∙ nowhere (drop from xs) (drop_past xs from here))
          ∙ sym (ap (option_map (λ n. place + n)) (nowhere (drop place xs) (drop_past xs place far)))

-- a range to the end
module _ {X : Type 0} where
  take_all : (xs : List X) (n : ℕ) → length xs ≤ n → take n xs ≡ xs
  take_all [] zero le = refl
  take_all [] (suc n) le = refl
  take_all (x ∷ xs) zero le = absurd (omega arith)
  take_all (x ∷ xs) (suc n) le = ap (λ (ys : List X). x ∷ ys) (take_all xs n (omega arith))

  length_rest : (xs : List X) (n : ℕ) → length (drop n xs) ≤ length xs - n
  length_rest xs zero = omega arith
  length_rest [] (suc n) = omega arith
  length_rest (x ∷ xs) (suc n) = let rest = length_rest xs n in omega (arith, rest)

  pub to_the_end : (xs : List X) (n : ℕ) → take (length xs - n) (drop n xs) ≡ drop n xs
  to_the_end xs n = take_all (drop n xs) (length xs - n) (length_rest xs n)
