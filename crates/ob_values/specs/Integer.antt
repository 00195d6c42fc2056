-- How whole numbers are spelled.
use Rattle.std.specs.Prelude.{◌≡◌, ℕ, Bool, List, ◌++◌, ℤ}
use Rattle.ob_spelling.specs.Numeral.{IsNumeral, IsSign, number, capped, signed, is_negative, after_sign}

-- an optional sign and one or more digits spell z
pub record IsInteger (text : List ℕ) (z : ℤ) : Type 0 where
  pub sign : List ℕ
  pub digits : List ℕ
  pub negative : Bool
  pub is_sign : IsSign sign negative
  pub numeral : IsNumeral digits
  pub whole : text ≡ sign ++ digits
  pub value : z ≡ signed negative (number digits)

-- what is read off the front of such a text: its sign, and the number of its digits, cut at 10 ^ 19
pub record IsSplitInteger (text : List ℕ) (negative : Bool) (size : ℕ) : Type 0 where
  pub numeral : IsNumeral (after_sign text)
  pub sign : negative ≡ is_negative text
  pub digits : size ≡ capped (number (after_sign text))
