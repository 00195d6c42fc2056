-- Lemmas on a number that is read digit by digit.
use Rattle.std.proofs.Common.{◌≡◌, ℕ, ◌+◌, ◌-◌, ◌*◌, ◌^◌, ◌<◌, ◌≤◌, Bool, true, List, [], ◌∷◌, length, take, get_or, lit<, arith, zero, refl}
use Rattle.std.proofs.Math.Nat.{pow-le-pow_right}
use Rattle.std.proofs.lemmas.Nat.{pow-add}
use Rattle.std.proofs.lemmas.Bool.{and_parts, leb-true}
use Rattle.std.specs.List.{list_all}
use Rattle.std.specs.Char.{is_ascii_digit, digit_value}
use Rattle.std.specs.Str.Parse.{digits_value}
use Rattle.std.proofs.lemmas.List.{take_more}
use Rattle.std.proofs.lemmas.List.Folds.{list_all-append}
use Rattle.std.proofs.lemmas.Int.Digits.{digits_value_more}
use Rattle.std.proofs.lemmas.Str.{digit_value_digit}

-- one digit more keeps a number of at most 18 digits below its bound
pub digit_fits : (n d i : ℕ) → n < 10 ^ i → d ≤ 9 → i < 18 → (10 * n + d < 10 ^ (i + 1)) × (10 ^ (i + 1) ≤ 10 ^ 18)
digit_fits n d i small digit short =
    let ten : zero < 10 = lit< tt in
    let more : 10 ^ (i + 1) ≡ 10 ^ i * 10 = pow-add 10 i 1 in
    let room : i + 1 ≤ 18 = omega arith in
    (omega arith, pow-le-pow_right ten room)

-- a number of at most 18 digits is below its bound
pub number_fits : (n i : ℕ) → n < 10 ^ i → i ≤ 18 → n < 10 ^ 18
number_fits n i small short =
    let ten : zero < 10 = lit< tt in
    omega (arith, pow-le-pow_right ten short)

-- one element more that passes
pub list_all_more : (p : ℕ → Bool) (xs : List ℕ) (i : ℕ) → i < length xs → list_all p (take i xs) ≡ true → p (get_or xs i 0) ≡ true
    → list_all p (take (i + 1) xs) ≡ true
list_all_more p xs i inside front next =
    rw (take_more xs i 0 inside, list_all-append p (take i xs) (get_or xs i 0 ∷ []), front, next) refl

-- a digit lies between `0` and `9`
pub digit_range : (b : ℕ) → is_ascii_digit b ≡ true → (48 ≤ b) × (b ≤ 57)
digit_range b digit = let (low, high) = and_parts _ _ digit in (leb-true 48 b low, leb-true b 57 high)

-- the number that one digit more makes
pub number_more : (ds : List ℕ) (n i : ℕ) → i < length ds → n ≡ digits_value 10 (take i ds) → is_ascii_digit (get_or ds i 0) ≡ true
    → 10 * n + (get_or ds i 0 - 48) ≡ digits_value 10 (take (i + 1) ds)
number_more ds n i inside so_far digit =
    let range = digit_range (get_or ds i 0) digit in
    let value : digit_value (get_or ds i 0) + 48 ≡ get_or ds i 0 = digit_value_digit (get_or ds i 0) range in
    omega (arith, digits_value_more 10 ds i inside)
