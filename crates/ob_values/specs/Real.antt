-- How reals are spelled.
use Rattle.std.specs.Prelude.{◌≡◌, ℕ, ◌*◌, ◌^◌, Bool, false, ◌⊎◌, List, [], ◌∷◌, ◌++◌, length, ℤ, pos, negsuc, suc, ◌+ℤ◌, ◌-ℤ◌, ◌<ℤ◌, codes}
use Rattle.ob_spelling.specs.Numeral.{AreDigits, IsNumeral, IsSign, number, signed}

-- The parts of a real's text: a sign, the digits before the point and behind it, and an exponent. No
-- exponent is the exponent without digits.
pub record RealParts : Type 0 where
  pub negative : Bool
  pub whole : List ℕ
  pub fraction : List ℕ
  pub exponent_negative : Bool
  pub exponent : List ℕ

-- digits, or digits, a point and digits, where those before the point may be missing
abbrev pub IsMantissa : List ℕ → List ℕ → List ℕ → Type 0
IsMantissa text whole fraction = ((text ≡ whole) × IsNumeral whole × (fraction ≡ [])) ⊎ ((text ≡ whole ++ 46 ∷ fraction) × AreDigits whole × IsNumeral fraction)

-- nothing, or e or E, an optional sign and digits
pub record IsPowerText (text : List ℕ) (negative : Bool) (digits : List ℕ) : Type 0 where
  pub mark : ℕ
  pub sign : List ℕ
  pub is_mark : (mark ≡ 101) ⊎ (mark ≡ 69)
  pub is_sign : IsSign sign negative
  pub numeral : IsNumeral digits
  pub whole : text ≡ mark ∷ (sign ++ digits)

abbrev pub IsExponent : List ℕ → Bool → List ℕ → Type 0
IsExponent text negative digits = ((text ≡ []) × (negative ≡ false) × (digits ≡ [])) ⊎ IsPowerText text negative digits

pub record IsReal (text : List ℕ) (parts : RealParts) : Type 0 where
  pub sign : List ℕ
  pub mantissa : List ℕ
  pub exponent : List ℕ
  pub is_sign : IsSign sign parts.negative
  pub is_mantissa : IsMantissa mantissa parts.whole parts.fraction
  pub is_exponent : IsExponent exponent parts.exponent_negative parts.exponent
  pub text_is : text ≡ sign ++ (mantissa ++ exponent)

-- the digits without the point, as one number
abbrev pub mantissa_of : RealParts → ℕ
mantissa_of parts = number (parts.whole ++ parts.fraction)

-- the power of ten that they are multiplied by
abbrev pub power_of : RealParts → ℤ
power_of parts = signed parts.exponent_negative (number parts.exponent) -ℤ pos (length parts.fraction)

-- n is m * 10 ^ k
abbrev pub IsScaled : ℕ → ℤ → ℕ → Type 0
IsScaled m (pos k) n = n ≡ m * 10 ^ k
IsScaled m (negsuc k) n = n * 10 ^ suc k ≡ m

-- Two powers of ten that serve alike in units of 10 ^ -18: they are one, or both are too large for a
-- decimal, or both are too small.
abbrev pub IsAsGood : ℤ → ℤ → Type 0
IsAsGood p q = (p ≡ q) ⊎ (((pos 35 <ℤ p) × (pos 35 <ℤ q)) ⊎ ((p <ℤ pos 0) × (q <ℤ pos 0)))

-- the parts name a number, seen in units of 10 ^ -18
pub record Denotes (parts : RealParts) (z : ℤ) : Type 0 where
  pub size : ℕ
  pub scaled : IsScaled (mantissa_of parts) (power_of parts +ℤ pos 18) size
  pub value : z ≡ signed parts.negative size

-- a text spells the number z, in units of 10 ^ -18
pub record IsRealSpelled (text : List ℕ) (z : ℤ) : Type 0 where
  pub parts : RealParts
  pub is_real : IsReal text parts
  pub denotes : Denotes parts z

-- the words for what is no number
abbrev pub IsNotFinite : List ℕ → Type 0
IsNotFinite text = (text ≡ codes "NaN") ⊎ ((text ≡ codes "INF") ⊎ (text ≡ codes "-INF"))
