-- A text spells one whole number: that of its sign and digits.
use Rattle.std.proofs.Common.{◌≡◌, ◌≢◌, ℕ, zero, suc, ◌^◌, ◌≤◌, Bool, true, false, List, [], ◌++◌, length, refl, ap, sym, ◌∙◌, subst, arith, inl, inr, Ok, Err, FitsSigned, w64}
use Rattle.std.specs.Prelude.{ℤ}
use Rattle.std.proofs.lemmas.Bool.{cases_lt}
use Rattle.std.proofs.lemmas.List.{append-nil}
use Rattle.ob_spelling.specs.Numeral.{AreDigits, IsNumeral, number, capped, signed, is_negative, after_sign}
use Rattle.ob_spelling.specs.DigitRun.{digits_front, after_digits}
use Rattle.ob_values.specs.Integer.{IsInteger}
use Rattle.ob_values.specs.Readers.{ReadsInteger}
use Rattle.ob_spelling.specs.declared.fault.ValueFault.TheVariants.{NotNumber, Range}
use Rattle.ob_spelling.proofs.NumeralLemmas.{SplitsSign, split_numeral, has_sign}
use Rattle.ob_spelling.proofs.DigitsLemmas.{front_and_after, front_digits, splits_digits, digits_front-nil}

-- the number that is read off the front
abbrev pub integer : List ℕ → ℤ
integer text = signed (is_negative text) (number (after_sign text))

pub IsInteger-integer : (text : List ℕ) → IsNumeral (after_sign text) → IsInteger text (integer text)
IsInteger-integer text h =
    let s = has_sign text in
    record { sign = s.sign; digits = after_sign text; negative = is_negative text; is_sign = s.is_sign; numeral = h; whole = s.whole; value = refl }

-- nothing else is spelled
pub record OneInteger (text : List ℕ) (z : ℤ) : Type 0 where
  pub value : z ≡ integer text
  pub numeral : IsNumeral (after_sign text)

pub one_integer : (text : List ℕ) (z : ℤ) → IsInteger text z → OneInteger text z
one_integer text z h =
    let split : SplitsSign text h.digits h.negative = subst (λ (t : List ℕ). SplitsSign t h.digits h.negative) (sym h.whole) (split_numeral h.sign h.digits h.negative h.is_sign h.numeral) in
    record {
      value = h.value ∙ sym (rw (split.minus, split.rest) refl);
      numeral = subst IsNumeral (sym split.rest) h.numeral;
    }

-- ---- the digits, read off the front

pub numeral_read : (text : List ℕ) → length (after_sign text) ≢ 0 → after_digits (after_sign text) ≡ [] → IsNumeral (after_sign text)
numeral_read text some none =
    let whole : after_sign text ≡ digits_front (after_sign text) = front_and_after (after_sign text) ∙ ap (λ (t : List ℕ). digits_front (after_sign text) ++ t) none ∙ append-nil _ in
    (omega arith, subst AreDigits (sym whole) (front_digits (after_sign text)))

pub numeral_ends : (text : List ℕ) → IsNumeral (after_sign text) → (digits_front (after_sign text) ≡ after_sign text) × (after_digits (after_sign text) ≡ [])
numeral_ends text h =
    let split = splits_digits (after_sign text) [] h.1 digits_front-nil in
    let same : after_sign text ++ [] ≡ after_sign text = append-nil (after_sign text) in
    (ap digits_front (sym same) ∙ split.digits_are, ap after_digits (sym same) ∙ split.rest_is)

-- a number that was cut at 10 ^ 19 is out of range either way
large : (negative : Bool) (n : ℕ) → 10 ^ 19 ≤ n → ¬ (FitsSigned w64 (signed negative n))
large true zero h = absurd (omega arith)
large true (suc n) h = λ fits. omega (arith, fits.sfits)
large false n h = λ fits. omega (arith, fits.sfits)

pub cut_fits : (negative : Bool) (n : ℕ) → FitsSigned w64 (signed negative (capped n)) → capped n ≡ n
cut_fits negative n fits =
    elim (cases_lt n (10 ^ 19)) [
      | inl small ↦ omega arith
      | inr wide ↦ absurd (large negative (capped n) (omega arith) fits)
    ]

pub fits_cut : (negative : Bool) (n : ℕ) → FitsSigned w64 (signed negative n) → capped n ≡ n
fits_cut negative n fits =
    elim (cases_lt n (10 ^ 19)) [
      | inl small ↦ omega arith
      | inr wide ↦ absurd (large negative n wide fits)
    ]

-- ---- what the reader answers

pub no_integer : (text : List ℕ) → ¬ (IsNumeral (after_sign text)) → ReadsInteger text (Err NotNumber)
no_integer text h = inl (refl, λ z s. h (one_integer text z s).numeral)

pub some_integer : (text : List ℕ) (z : ℤ) → IsNumeral (after_sign text) → z ≡ integer text → FitsSigned w64 z → ReadsInteger text (Ok z)
some_integer text z n e fits = (subst (IsInteger text) (sym e) (IsInteger-integer text n), fits)

pub far_integer : (text : List ℕ) → IsNumeral (after_sign text) → ¬ (FitsSigned w64 (integer text)) → ReadsInteger text (Err Range)
far_integer text n far = inr (refl, (integer text, IsInteger-integer text n, far))

-- a text spells one number at most
pub one_number : (text : List ℕ) (y z : ℤ) → IsInteger text y → IsInteger text z → y ≡ z
one_number text y z h k = (one_integer text y h).value ∙ sym (one_integer text z k).value
