-- What is printed is a spelling of the value.
use Rattle.std.proofs.Common.{◌≡◌, ℕ, suc, ◌+◌, ◌-◌, ◌*◌, ◌/◌, ◌%◌, ◌^◌, ◌<◌, ◌≤◌, Bool, true, false, List, [], ◌∷◌, ◌++◌, length, refl, ap, sym, ◌∙◌, subst, arith, inl, inr, FitsSigned, w64}
use Rattle.std.specs.Prelude.{ℤ, pos, negsuc, neg_ℤ, unsigned_abs, ◌+ℤ◌, decimal}
use Rattle.std.specs.Int.{is_negative}
use Rattle.std.specs.Fmt.{signed_decimal}
use Rattle.std.proofs.Math.Nat.{mul_assoc, mul_comm, add-mul}
use Rattle.std.proofs.lemmas.Int.{ints}
use Rattle.std.proofs.lemmas.Bool.Decides.{eqb_tells}
use Rattle.std.proofs.lemmas.Fmt.{digits_value-decimal}
use Rattle.std.proofs.lemmas.List.{append-nil}
use Rattle.ob_spelling.specs.White.{trim}
use Rattle.ob_spelling.specs.Numeral.{number}
use Rattle.ob_spelling.specs.Places.{short_places, fraction_text, minus}
use Rattle.ob_spelling.proofs.NumeralLemmas.{decimal_numerals}
use Rattle.ob_spelling.proofs.CleanLemmas.{Clean, trim-clean, clean_append, digits_clean, minus_clean}
use Rattle.ob_spelling.proofs.PlacesLemmas.{short_are, short_some, minus_sign, decimal_numeral}
use Rattle.ob_spelling.proofs.NumberLemmas.{number-append, ten_pow_split}
use Rattle.ob_values.specs.Integer.{IsInteger}
use Rattle.ob_values.specs.Decimal.{IsDecimal}
use Rattle.ob_values.specs.Real.{RealParts, IsMantissa, IsRealSpelled, IsScaled, mantissa_of, power_of}
use Rattle.ob_values.specs.Printed.{real_text}
use Rattle.ob_values.proofs.DecimalLemmas.{size_small, signed-parts}

-- ---- whole numbers

pub printed_integer : (z : ℤ) → unsigned_abs z < 2 ^ 64 → IsInteger (signed_decimal z) z
printed_integer (pos n) h =
    record { sign = []; digits = decimal n; negative = false; is_sign = inl refl; numeral = decimal_numeral n h; whole = refl; value = ap pos (sym (digits_value-decimal decimal_numerals n h)) }
printed_integer (negsuc n) h =
    record { sign = 45 ∷ []; digits = decimal (suc n); negative = true; is_sign = refl; numeral = decimal_numeral (suc n) h; whole = refl; value = ap (λ (k : ℕ). neg_ℤ (pos k)) (sym (digits_value-decimal decimal_numerals (suc n) h)) }

-- ---- decimals

-- the places that are printed of a size, as a mantissa's fraction
pub record PointPrinted (n : ℕ) : Type 0 where
  pub fraction : List ℕ
  pub is_mantissa : IsMantissa (decimal (n / 10 ^ 18) ++ fraction_text 18 (n % 10 ^ 18)) (decimal (n / 10 ^ 18)) fraction
  pub few : length fraction ≤ 18
  pub value : number fraction * 10 ^ (18 - length fraction) ≡ n % 10 ^ 18
  pub clean : Clean (decimal (n / 10 ^ 18) ++ fraction_text 18 (n % 10 ^ 18))

point_printed : (n : ℕ) → n < 10 ^ 36 → PointPrinted n
point_printed n h =
    let numeral = decimal_numeral (n / 10 ^ 18) (omega arith) in
    let below : n % 10 ^ 18 < 10 ^ 18 = omega arith in
    let clean = digits_clean (decimal (n / 10 ^ 18)) numeral.1 in
    elim (eqb_tells (n % 10 ^ 18) 0) [
      | inl none ↦ record {
        fraction = [];
        is_mantissa = rw none.0 (inl (append-nil (decimal (n / 10 ^ 18)), numeral, refl));
        few = omega arith;
        value = omega (arith, none.1);
        clean = rw none.0 (clean_append (decimal (n / 10 ^ 18)) [] clean tt);
      }
      | inr some ↦
          let p = short_are 18 (n % 10 ^ 18) below in
          record {
            fraction = short_places 18 (n % 10 ^ 18);
            is_mantissa = rw some.0 (inr (refl, numeral.1, (short_some 18 (n % 10 ^ 18) below some.1, p.digits)));
            few = p.few;
            value = p.value;
            clean = rw some.0 (clean_append (decimal (n / 10 ^ 18)) (46 ∷ short_places 18 (n % 10 ^ 18)) clean (refl, digits_clean (short_places 18 (n % 10 ^ 18)) p.digits));
          }
    ]

-- the parts that a printed decimal is read as
abbrev pub printed_parts : Bool → ℕ → List ℕ → RealParts
printed_parts negative whole fraction = record { negative = negative; whole = decimal whole; fraction = fraction; exponent_negative = false; exponent = [] }

joined : (whole f len : ℕ) → len ≤ 18 → (whole * 10 ^ len + f) * 10 ^ (18 - len) ≡ whole * 10 ^ 18 + f * 10 ^ (18 - len)
joined whole f len h =
    let p : 10 ^ 18 ≡ 10 ^ (18 - len) * 10 ^ len = ten_pow_split len 18 h in
    let q : whole * 10 ^ len * 10 ^ (18 - len) ≡ whole * 10 ^ 18 = mul_assoc whole (10 ^ len) (10 ^ (18 - len)) ∙ ap (λ (k : ℕ). whole * k) (mul_comm (10 ^ len) (10 ^ (18 - len)) ∙ sym p) in
    add-mul (whole * 10 ^ len) f (10 ^ (18 - len)) ∙ ap (λ (k : ℕ). k + f * 10 ^ (18 - len)) q

printed_size : (negative : Bool) (n : ℕ) (p : PointPrinted n) → n < 10 ^ 36 → IsScaled (mantissa_of (printed_parts negative (n / 10 ^ 18) p.fraction)) (pos (18 - length p.fraction)) n
printed_size negative n p h =
    let whole : number (decimal (n / 10 ^ 18)) ≡ n / 10 ^ 18 = digits_value-decimal decimal_numerals (n / 10 ^ 18) (omega arith) in
    let mantissa : number (decimal (n / 10 ^ 18) ++ p.fraction) ≡ n / 10 ^ 18 * 10 ^ length p.fraction + number p.fraction =
    number-append (decimal (n / 10 ^ 18)) p.fraction ∙ ap (λ (k : ℕ). k * 10 ^ length p.fraction + number p.fraction) whole in
    let sum = ap (λ (k : ℕ). k * 10 ^ (18 - length p.fraction)) mantissa ∙ joined (n / 10 ^ 18) (number p.fraction) (length p.fraction) p.few in
    let value = p.value in
    omega (arith, sum)

printed_power : (negative : Bool) (whole : ℕ) (fraction : List ℕ) → length fraction ≤ 18 → power_of (printed_parts negative whole fraction) +ℤ pos 18 ≡ pos (18 - length fraction)
printed_power negative whole fraction h = omega (arith, ints)

-- the round trip
pub spelled_real : (z : ℤ) → IsDecimal z → IsRealSpelled (trim (real_text z)) z
spelled_real z h =
    let n = unsigned_abs z in
    let small = size_small n h in
    let negative = is_negative z in
    let p = point_printed n small in
    let parts = printed_parts negative (n / 10 ^ 18) p.fraction in
    let clean : Clean (real_text z) = clean_append (minus negative) _ (minus_clean negative) p.clean in
    let power : power_of parts +ℤ pos 18 ≡ pos (18 - length p.fraction) = printed_power negative (n / 10 ^ 18) p.fraction p.few in
    record {
      parts = parts;
      is_real = record {
        sign = minus negative;
        mantissa = decimal (n / 10 ^ 18) ++ fraction_text 18 (n % 10 ^ 18);
        exponent = [];
        is_sign = minus_sign negative;
        is_mantissa = p.is_mantissa;
        is_exponent = inl (refl, refl, refl);
        text_is = trim-clean (real_text z) clean ∙ ap (λ (t : List ℕ). minus negative ++ t) (sym (append-nil _));
      };
      denotes = record {
        size = n;
        scaled = subst (λ (q : ℤ). IsScaled (mantissa_of parts) q n) (sym power) (printed_size negative n p small);
        value = sym (signed-parts z);
      };
    }

integer_clean : (z : ℤ) → unsigned_abs z < 2 ^ 64 → Clean (signed_decimal z)
integer_clean (pos n) h = digits_clean (decimal n) (decimal_numeral n h).1
integer_clean (negsuc n) h = (refl, digits_clean (decimal (suc n)) (decimal_numeral (suc n) h).1)

pub spelled_integer : (z : ℤ) → unsigned_abs z < 2 ^ 64 → IsInteger (trim (signed_decimal z)) z
spelled_integer z h = subst (λ (t : List ℕ). IsInteger t z) (sym (trim-clean (signed_decimal z) (integer_clean z h))) (printed_integer z h)

pub fits_size : (z : ℤ) → FitsSigned w64 z → unsigned_abs z < 2 ^ 64
fits_size (pos n) h = omega (arith, h.sfits)
fits_size (negsuc n) h = omega (arith, h.sfits)
