-- Numbers times powers of ten, which may be negative.
use Rattle.std.proofs.Common.{◌≡◌, ◌≢◌, ℕ, zero, suc, ◌+◌, ◌-◌, ◌*◌, ◌/◌, ◌%◌, ◌^◌, ◌<◌, ◌≤◌, ◌⊎◌, Bool, true, false, refl, ap, sym, ◌∙◌, subst, arith, inl, inr, lit<}
use Rattle.std.specs.Prelude.{ℤ, pos, negsuc, neg_ℤ, ◌+ℤ◌, ◌-ℤ◌, ◌≤ℤ◌, ◌<ℤ◌, unsigned_abs}
use lib.Signed.{lt_z}
use Rattle.std.proofs.Math.Nat.{mul_assoc, mul_comm, pow-le-pow_right, div-mul-le_self}
use Rattle.std.proofs.lemmas.Nat.{pow-add, mul-le, le-div}
use Rattle.std.proofs.lemmas.Bool.{cases_lt, ltb-false}
use Rattle.std.proofs.lemmas.Int.{ints}
use Rattle.ob_spelling.specs.Numeral.{capped, signed}
use Rattle.ob_values.specs.Real.{IsScaled, IsAsGood}
use Rattle.ob_values.specs.Decimal.{IsDecimalSize}
use Rattle.ob_values.specs.Significand.{IsWide}
use Rattle.ob_spelling.proofs.NumberLemmas.{ten_pow_pos, ten_pow_split, mul_cancel}
use Rattle.ob_values.proofs.DecimalLemmas.{ends_in_zero, size_small}

-- what ends in no zero can't be divided by ten
pub not_divided : (digits k n : ℕ) → digits % 10 ≢ 0 → ¬ (IsScaled digits (negsuc k) n)
not_divided digits k n ends e = ends (ap (λ (m : ℕ). m % 10) (sym e) ∙ ends_in_zero n (suc k) (omega arith))

-- nor is it a decimal with 36 zeros
pub not_so_large : (digits k n : ℕ) → digits ≢ 0 → 35 < k → IsDecimalSize n → ¬ (IsScaled digits (pos k) n)
not_so_large digits k n some large h e =
    let p : 10 ^ 36 ≤ 10 ^ k = pow-le-pow_right {n = 10} (lit< tt) {i = 36} {j = k} (omega arith) in
    let m = mul-le 1 (10 ^ 36) digits (10 ^ k) (omega arith) p in
    absurd (omega (arith, m, e, size_small n h))

-- too wide a number is no decimal, wherever the point stands
pub wide_scaled : (m n : ℕ) (q : ℤ) → IsWide m → IsDecimalSize n → ¬ (IsScaled m q n)
wide_scaled m n (pos k) wide h e =
    elim (cases_lt (18 - h.scale) k) [
      | inl less ↦
          let split : 10 ^ k ≡ 10 ^ (k - (18 - h.scale)) * 10 ^ (18 - h.scale) = ten_pow_split (18 - h.scale) k (omega arith) in
          let same : m * 10 ^ (k - (18 - h.scale)) * 10 ^ (18 - h.scale) ≡ h.coefficient * 10 ^ (18 - h.scale) =
          mul_assoc m (10 ^ (k - (18 - h.scale))) (10 ^ (18 - h.scale)) ∙ ap (λ (x : ℕ). m * x) (sym split) ∙ sym e ∙ h.value in
          let is : m * 10 ^ (k - (18 - h.scale)) ≡ h.coefficient = mul_cancel _ h.coefficient (10 ^ (18 - h.scale)) (ten_pow_pos (18 - h.scale)) same in
          let at_least : m * 1 ≤ m * 10 ^ (k - (18 - h.scale)) = mul-le m 1 m _ (omega arith) (ten_pow_pos (k - (18 - h.scale))) in
          wide m 0 (omega (arith, at_least, is, h.small)) (omega arith)
      | inr more ↦
          let split : 10 ^ (18 - h.scale) ≡ 10 ^ (18 - h.scale - k) * 10 ^ k = ten_pow_split k (18 - h.scale) more in
          let same : m * 10 ^ k ≡ h.coefficient * 10 ^ (18 - h.scale - k) * 10 ^ k =
          sym e ∙ h.value ∙ ap (λ (x : ℕ). h.coefficient * x) split ∙ sym (mul_assoc h.coefficient (10 ^ (18 - h.scale - k)) (10 ^ k)) in
          wide h.coefficient (18 - h.scale - k) h.small (mul_cancel m _ (10 ^ k) (ten_pow_pos k) same)
    ]
wide_scaled m n (negsuc k) wide h e =
    let p : m ≡ h.coefficient * 10 ^ (18 - h.scale + suc k) =
    sym e ∙ ap (λ (x : ℕ). x * 10 ^ suc k) h.value ∙ mul_assoc h.coefficient (10 ^ (18 - h.scale)) (10 ^ suc k) ∙ ap (λ (x : ℕ). h.coefficient * x) (sym (pow-add 10 (18 - h.scale) (suc k))) in
    wide h.coefficient (18 - h.scale + suc k) h.small p

-- the zeros at the end of m may be moved into the power, and back
shift_up : (digits z k : ℕ) → digits * 10 ^ z * 10 ^ k ≡ digits * 10 ^ (k + z)
shift_up digits z k = mul_assoc digits (10 ^ z) (10 ^ k) ∙ ap (λ (x : ℕ). digits * x) (mul_comm (10 ^ z) (10 ^ k) ∙ sym (pow-add 10 k z))

pub zeros_out : (digits z n : ℕ) (q p : ℤ) → p ≡ q +ℤ pos z → IsScaled (digits * 10 ^ z) q n → IsScaled digits p n
zeros_out digits z n (pos k) p e h = subst (λ (i : ℤ). IsScaled digits i n) (sym e) (h ∙ shift_up digits z k)
zeros_out digits z n (negsuc k) p e h =
    elim (cases_lt k z) [
      | inl enough ↦
          let power : p ≡ pos (z - suc k) = omega (arith, ints) in
          let split : 10 ^ z ≡ 10 ^ (z - suc k) * 10 ^ suc k = ten_pow_split (suc k) z (omega arith) in
          let same : n * 10 ^ suc k ≡ digits * 10 ^ (z - suc k) * 10 ^ suc k = h ∙ ap (λ (x : ℕ). digits * x) split ∙ sym (mul_assoc digits (10 ^ (z - suc k)) (10 ^ suc k)) in
          subst (λ (i : ℤ). IsScaled digits i n) (sym power) (mul_cancel n _ (10 ^ suc k) (ten_pow_pos (suc k)) same)
      | inr few ↦
          let power : p ≡ negsuc (k - z) = omega (arith, ints) in
          let split : 10 ^ suc k ≡ 10 ^ suc (k - z) * 10 ^ z = ten_pow_split z (suc k) (omega arith) ∙ ap (λ (x : ℕ). 10 ^ x * 10 ^ z) (omega arith) in
          let same : n * 10 ^ suc (k - z) * 10 ^ z ≡ digits * 10 ^ z = mul_assoc n (10 ^ suc (k - z)) (10 ^ z) ∙ ap (λ (x : ℕ). n * x) (sym split) ∙ h in
          subst (λ (i : ℤ). IsScaled digits i n) (sym power) (mul_cancel _ digits (10 ^ z) (ten_pow_pos z) same)
    ]

pub zeros_in : (digits z n : ℕ) (q p : ℤ) → p ≡ q +ℤ pos z → IsScaled digits p n → IsScaled (digits * 10 ^ z) q n
zeros_in digits z n (pos k) p e h =
    let at : IsScaled digits (pos (k + z)) n = subst (λ (i : ℤ). IsScaled digits i n) e h in
    at ∙ sym (shift_up digits z k)
zeros_in digits z n (negsuc k) p e h =
    elim (cases_lt k z) [
      | inl enough ↦
          let power : p ≡ pos (z - suc k) = omega (arith, ints) in
          let at : IsScaled digits (pos (z - suc k)) n = subst (λ (i : ℤ). IsScaled digits i n) power h in
          let split : 10 ^ z ≡ 10 ^ (z - suc k) * 10 ^ suc k = ten_pow_split (suc k) z (omega arith) in
          ap (λ (x : ℕ). x * 10 ^ suc k) at ∙ mul_assoc digits (10 ^ (z - suc k)) (10 ^ suc k) ∙ ap (λ (x : ℕ). digits * x) (sym split)
      | inr few ↦
          let power : p ≡ negsuc (k - z) = omega (arith, ints) in
          let at : IsScaled digits (negsuc (k - z)) n = subst (λ (i : ℤ). IsScaled digits i n) power h in
          let split : 10 ^ suc k ≡ 10 ^ suc (k - z) * 10 ^ z = ten_pow_split z (suc k) (omega arith) ∙ ap (λ (x : ℕ). 10 ^ x * 10 ^ z) (omega arith) in
          ap (λ (x : ℕ). n * x) split ∙ sym (mul_assoc n (10 ^ suc (k - z)) (10 ^ z)) ∙ ap (λ (x : ℕ). x * 10 ^ z) at
    ]

-- 0 is 0, wherever the point stands
pub zero_scaled : (m : ℕ) (q : ℤ) → m ≡ 0 → IsScaled m q 0
zero_scaled m (pos k) e = sym (ap (λ (x : ℕ). x * 10 ^ k) e ∙ omega arith)
zero_scaled m (negsuc k) e = omega (arith, e)

-- the power of a scaled number, told by its sign
pub scaled_below : (digits n : ℕ) (q : ℤ) → q <ℤ pos 0 → digits % 10 ≢ 0 → ¬ (IsScaled digits q n)
scaled_below digits n (pos k) low ends e = absurd (omega (arith, ints))
scaled_below digits n (negsuc k) low ends e = not_divided digits k n ends e

pub scaled_above : (digits n : ℕ) (q : ℤ) → pos 35 <ℤ q → digits ≢ 0 → IsDecimalSize n → ¬ (IsScaled digits q n)
scaled_above digits n (pos k) high some h e = not_so_large digits k n some (omega (arith, ints)) h e
scaled_above digits n (negsuc k) high some h e = absurd (omega (arith, ints))

pub scaled_at : (digits n : ℕ) (q : ℤ) → pos 0 ≤ℤ q → IsScaled digits q n → n ≡ digits * 10 ^ unsigned_abs q
scaled_at digits n (pos k) h e = e
scaled_at digits n (negsuc k) h e = absurd (omega (arith, ints))

pub scaled_from : (digits n : ℕ) (q : ℤ) → pos 0 ≤ℤ q → n ≡ digits * 10 ^ unsigned_abs q → IsScaled digits q n
scaled_from digits n (pos k) h e = e
scaled_from digits n (negsuc k) h e = absurd (omega (arith, ints))

pub signed_bounds : (negative : Bool) (n : ℕ) → (neg_ℤ (pos n) ≤ℤ signed negative n) × (signed negative n ≤ℤ pos n)
signed_bounds true zero = (omega (arith, ints), omega (arith, ints))
signed_bounds true (suc n) = (omega (arith, ints), omega (arith, ints))
signed_bounds false zero = (omega (arith, ints), omega (arith, ints))
signed_bounds false (suc n) = (omega (arith, ints), omega (arith, ints))

signed_false : (n : ℕ) → signed false n ≡ pos n
signed_false n = refl

signed_true : (n : ℕ) → signed true n +ℤ pos n ≡ pos 0
signed_true zero = refl
signed_true (suc n) = omega (arith, ints)

-- an exponent that was cut at 10 ^ 19
pub cut_power : (negative : Bool) (n e places z : ℕ) → e ≡ capped n → places < 2 ^ 63 → z < places + 2 ^ 63
    → IsAsGood (((signed negative n -ℤ pos places) +ℤ pos 18) +ℤ pos z) (((signed negative e -ℤ pos places) +ℤ pos 18) +ℤ pos z)
cut_power negative n e places z cut low high =
    elim (cases_lt n (10 ^ 19)) [
      | inl fits ↦
          let same : n ≡ e = omega arith in
          inl (ap (λ (k : ℕ). ((signed negative k -ℤ pos places) +ℤ pos 18) +ℤ pos z) same)
      | inr large ↦ inr (cut_large negative n e places z (omega arith) large low high)
    ]
  where
    cut_large : (negative : Bool) (n e places z : ℕ) → e ≡ 10 ^ 19 → 10 ^ 19 ≤ n → places < 2 ^ 63 → z < places + 2 ^ 63
        → ((pos 35 <ℤ (((signed negative n -ℤ pos places) +ℤ pos 18) +ℤ pos z)) × (pos 35 <ℤ (((signed negative e -ℤ pos places) +ℤ pos 18) +ℤ pos z)))
        ⊎ (((((signed negative n -ℤ pos places) +ℤ pos 18) +ℤ pos z) <ℤ pos 0) × ((((signed negative e -ℤ pos places) +ℤ pos 18) +ℤ pos z) <ℤ pos 0))
    cut_large true n e places z cut large low high =
        let a = signed_true n in
        let b = signed_true e in
        inr (omega (arith, ints), omega (arith, ints))
    cut_large false n e places z cut large low high = inl (omega (arith, ints), omega (arith, ints))

-- ---- a power in the code

pub small_power : (q : ℤ) → lt_z q (pos 0) ≡ false → lt_z (pos 35) q ≡ false → unsigned_abs q ≤ 35
small_power (pos k) low high = ltb-false 35 k high
small_power (negsuc k) low high = absurd cc

pub power_fits : (k : ℕ) → k ≤ 35 → 10 ^ k < 2 ^ 128
power_fits k h =
    let p : 10 ^ k ≤ 10 ^ 35 = pow-le-pow_right {n = 10} (lit< tt) {i = k} {j = 35} h in
    omega (arith, p)

pub no_minus : (q : ℤ) → lt_z q (pos 0) ≡ false → pos 0 ≤ℤ q
no_minus q h = grind (arith, ints)

pub too_large : (digits scale n : ℕ) → 0 < scale → 999_999_999_999_999_999_999_999_999_999_999_999 / scale < digits → n ≡ digits * scale → ¬ (IsDecimalSize n)
too_large digits scale n some over e h =
    let small = size_small n h in
    let le : digits ≤ 999_999_999_999_999_999_999_999_999_999_999_999 / scale = le-div digits 999_999_999_999_999_999_999_999_999_999_999_999 scale some (omega (arith, small, e)) in
    absurd (omega (arith, le))

pub not_too_large : (digits scale : ℕ) → digits ≤ 999_999_999_999_999_999_999_999_999_999_999_999 / scale → digits * scale < 10 ^ 36
not_too_large digits scale h =
    let a = mul-le digits scale (999_999_999_999_999_999_999_999_999_999_999_999 / scale) scale h (omega arith) in
    let b = div-mul-le_self 999_999_999_999_999_999_999_999_999_999_999_999 scale in
    omega (arith, a, b)

-- only 0 is 0 times a power
zero_only : (digits n : ℕ) (q : ℤ) → digits ≡ 0 → IsScaled digits q n → n ≡ 0
zero_only digits n (pos k) e h = h ∙ ap (λ (x : ℕ). x * 10 ^ k) e ∙ omega arith
zero_only digits n (negsuc k) e h =
    mul_cancel n 0 (10 ^ suc k) (ten_pow_pos (suc k)) (h ∙ e ∙ omega arith)

pub as_good : (digits n : ℕ) (p q : ℤ) → (digits ≡ 0) ⊎ (digits % 10 ≢ 0) → IsAsGood p q → IsDecimalSize n → IsScaled digits q n → IsScaled digits p n
as_good digits n p q (inl none) good h e =
    subst (IsScaled digits p) (sym (zero_only digits n q none e)) (zero_scaled digits p none)
as_good digits n p q (inr ends) good h e =
    elim good [
      | inl same ↦ subst (λ (i : ℤ). IsScaled digits i n) (sym same) e
      | inr apart ↦ elim apart [
        | inl above ↦ absurd (scaled_above digits n q above.1 (λ z. ends (ap (λ (x : ℕ). x % 10) z)) h e)
        | inr below ↦ absurd (scaled_below digits n q below.1 ends e)
      ]
    ]

pub as_good_back : (p q : ℤ) → IsAsGood p q → IsAsGood q p
as_good_back p q (inl same) = inl (sym same)
as_good_back p q (inr (inl above)) = inr (inl (above.1, above.0))
as_good_back p q (inr (inr below)) = inr (inr (below.1, below.0))
