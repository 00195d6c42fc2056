-- The values of an option.
use Rattle.std.proofs.Common.{arith, if◌then◌else◌, ◌≡◌, ℕ, ◌+◌, true, false, List, [], ◌∷◌, ◌++◌, length, nat_lt, refl, ap, ◌∙◌}
use Rattle.std.specs.Prelude.{bytes_eq}
use Rattle.std.proofs.lemmas.Bool.Decides.{nat_tests}
use Rattle.std.proofs.lemmas.List.{length-append}
use Rattle.std.proofs.lemmas.Slice.Eq.{bytes_eq-Decides}
use Rattle.ob_command.specs.Arguments.{Argument, operand, option, bare, values}

pub same_bytes : (a b : List ℕ) → bytes_eq a b ≡ true → a ≡ b
same_bytes a b same = grind (arith, bytes_eq-Decides)

-- the values among arguments and further ones
pub values_append : (name : List ℕ) (xs ys : List Argument) → values name (xs ++ ys) ≡ values name xs ++ values name ys
values_append name [] ys = refl
values_append name (operand word ∷ xs) ys = values_append name xs ys
values_append name (bare other ∷ xs) ys = values_append name xs ys
values_append name (option other value ∷ xs) ys =
    elim (bytes_eq other name) as (λ t. (if t then value ∷ values name (xs ++ ys) else values name (xs ++ ys)) ≡ (if t then value ∷ values name xs else values name xs) ++ values name ys) [
      | true ↦ ap (λ (vs : List (List ℕ)). value ∷ vs) (values_append name xs ys)
      | false ↦ values_append name xs ys
    ]

more_in_all : (a b : ℕ) → nat_lt b (a + b) ≡ nat_lt 0 a
more_in_all a b = grind (arith, nat_tests)

-- an option stands before where it has more values in all than from here on
pub repeated : (name : List ℕ) (given before rest : List Argument) → given ≡ before ++ rest
    → nat_lt (length (values name rest)) (length (values name given)) ≡ nat_lt 0 (length (values name before))
repeated name given before rest parts =
    let sum : length (values name given) ≡ length (values name before) + length (values name rest) =
    ap (λ (g : List Argument). length (values name g)) parts ∙ ap (λ (vs : List (List ℕ)). length vs) (values_append name before rest) ∙ length-append (values name before) (values name rest) in
    ap (λ (n : ℕ). nat_lt (length (values name rest)) n) sum ∙ more_in_all (length (values name before)) (length (values name rest))
