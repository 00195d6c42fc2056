-- Signs and decimal digits.
use Rattle.std.specs.Prelude.{◌≡◌, ℕ, ◌+◌, ◌-◌, ◌*◌, ◌^◌, ◌<◌, min, Bool, true, false, ◌⊎◌, List, [], ◌∷◌, length, ℤ, pos, neg_ℤ}
use Rattle.std.specs.Int.{IsInRange}
use Rattle.std.specs.List.{AllByRecursion}
use Rattle.std.specs.Str.Parse.{starts_with_minus, without_leading_sign}

-- each byte is a decimal digit
abbrev pub AreDigits : List ℕ → Type 0
AreDigits ds = AllByRecursion (λ c. IsInRange 48 57 c) ds

-- one digit or more
abbrev pub IsNumeral : List ℕ → Type 0
IsNumeral ds = (0 < length ds) × AreDigits ds

-- the number that the digits write: each has the weight of its place
abbrev pub number : List ℕ → ℕ
number [] = 0
number (c ∷ cs) = (c - 48) * 10 ^ length cs + number cs

-- the number, or 10 ^ 19 where it is larger: above every number that a value holds
abbrev pub capped : ℕ → ℕ
capped n = min n (10 ^ 19)

-- a minus says that the number is negative; a plus or nothing that it isn't
abbrev pub IsSign : List ℕ → Bool → Type 0
IsSign sign true = sign ≡ 45 ∷ []
IsSign sign false = (sign ≡ []) ⊎ (sign ≡ 43 ∷ [])

-- the number of this size and sign
abbrev pub signed : Bool → ℕ → ℤ
signed true n = neg_ℤ (pos n)
signed false n = pos n

-- whether a text begins with a minus, and what follows its sign, if it has one
unfoldable pub is_negative : List ℕ → Bool
is_negative text = starts_with_minus text

unfoldable pub after_sign : List ℕ → List ℕ
after_sign text = without_leading_sign text
