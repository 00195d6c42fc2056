-- What the reader of reals answers.
use Rattle.std.specs.Prelude.{◌≡◌, ℕ, ◌⊎◌, List, Result, Ok, Err, ℤ}
use Rattle.ob_spelling.specs.declared.fault.ValueFault.{ValueFault}
use Rattle.ob_spelling.specs.declared.fault.ValueFault.TheVariants.{NotFinite, NotNumber, Digits}
use Rattle.ob_values.specs.Decimal.{IsDecimal}
use Rattle.ob_values.specs.Real.{RealParts, IsReal, Denotes, IsRealSpelled, IsNotFinite}

-- The decimal that a text spells. A text that spells none may be one of three words, or have not the
-- form, or have the form of a number that is no decimal.
abbrev pub ReadsReal : List ℕ → Result ℤ ValueFault → Type 0
ReadsReal text (Ok z) = IsRealSpelled text z × IsDecimal z
ReadsReal text (Err fault) =
    ((fault ≡ NotFinite) × IsNotFinite text)
    ⊎ (((fault ≡ NotNumber) × ¬ (IsNotFinite text) × ((parts : RealParts) → ¬ (IsReal text parts)))
    ⊎ ((fault ≡ Digits) × ((parts : RealParts) × IsReal text parts × ((z : ℤ) → IsDecimal z → ¬ (Denotes parts z)))))
