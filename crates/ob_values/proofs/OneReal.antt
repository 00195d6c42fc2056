-- A text spells one number.
use Rattle.std.proofs.Common.{◌≡◌, ℕ, suc, ◌^◌, Bool, List, [], ◌∷◌, length, Some, None, Result, Ok, Err, refl, ap, sym, ◌∙◌, subst, arith, inl, inr}
use Rattle.std.specs.Prelude.{ℤ, pos, negsuc, ◌+ℤ◌, codes}
use Rattle.ob_spelling.specs.Numeral.{after_sign, signed}
use Rattle.ob_spelling.specs.declared.fault.ValueFault.{ValueFault}
use Rattle.ob_values.specs.Real.{RealParts, IsExponent, IsReal, Denotes, IsRealSpelled, IsScaled, IsNotFinite, power_of}
use Rattle.ob_values.specs.RealReading.{Mantissa, mantissa_at}
use Rattle.ob_spelling.specs.DigitRun.{digits_front, after_digits}
use Rattle.ob_values.specs.ReadsReal.{ReadsReal}
use Rattle.ob_spelling.proofs.NumberLemmas.{ten_pow_pos, mul_cancel}
use Rattle.ob_values.proofs.RealLemmas.{real_read, exponent_read}

same_some : (m n : Mantissa) → Some m ≡ Some n → m ≡ n
same_some m n e = cc

-- an exponent's text has one sign and one list of digits
pub record SameExponent (a b : Bool) (ds es : List ℕ) : Type 0 where
  pub sign : a ≡ b
  pub digits : ds ≡ es

one_exponent : (text : List ℕ) (a b : Bool) (ds es : List ℕ) → IsExponent text a ds → IsExponent text b es → SameExponent a b ds es
one_exponent [] a b ds es (inl h) (inl k) = record { sign = h.1 ∙ sym k.1; digits = h.2 ∙ sym k.2 }
one_exponent [] a b ds es (inl h) (inr k) = absurd (omega (arith, ap length k.whole))
one_exponent [] a b ds es (inr h) k = absurd (omega (arith, ap length h.whole))
one_exponent (c ∷ cs) a b ds es h k =
    let p = exponent_read c cs a ds h in
    let q = exponent_read c cs b es k in
    record { sign = sym p.minus ∙ q.minus; digits = sym p.digits_are ∙ q.digits_are }

parts_from : Bool → List ℕ → List ℕ → Bool → List ℕ → RealParts
parts_from negative whole fraction exponent_negative exponent = record { negative = negative; whole = whole; fraction = fraction; exponent_negative = exponent_negative; exponent = exponent }

pub one_real : (text : List ℕ) (p q : RealParts) → IsReal text p → IsReal text q → p ≡ q
unfolding parts_from
one_real text p q h k =
    let r = real_read text p h in
    let s = real_read text q k in
    let m = same_some _ _ (sym r.mantissa ∙ s.mantissa) in
    let exponent : r.exponent ≡ s.exponent = ap (λ (n : Mantissa). n.rest) m in
    let x = one_exponent s.exponent p.exponent_negative q.exponent_negative p.exponent q.exponent (subst (λ (t : List ℕ). IsExponent t p.exponent_negative p.exponent) exponent r.is_exponent) s.is_exponent in
    ap (λ (b : Bool). parts_from b p.whole p.fraction p.exponent_negative p.exponent) (sym r.minus ∙ s.minus)
    ∙ ap (λ (n : Mantissa). parts_from q.negative n.whole n.fraction p.exponent_negative p.exponent) m
    ∙ ap (λ (b : Bool). parts_from q.negative q.whole q.fraction b p.exponent) x.sign
    ∙ ap (λ (t : List ℕ). parts_from q.negative q.whole q.fraction q.exponent_negative t) x.digits

one_size : (m : ℕ) (k : ℤ) (a b : ℕ) → IsScaled m k a → IsScaled m k b → a ≡ b
one_size m (pos k) a b h g = h ∙ sym g
one_size m (negsuc k) a b h g = mul_cancel a b (10 ^ suc k) (ten_pow_pos (suc k)) (h ∙ sym g)

one_denoted : (p : RealParts) (y z : ℤ) → Denotes p y → Denotes p z → y ≡ z
one_denoted p y z h k = h.value ∙ ap (signed p.negative) (one_size _ (power_of p +ℤ pos 18) h.size k.size h.scaled k.scaled) ∙ sym k.value

pub one_number : (text : List ℕ) (y z : ℤ) → IsRealSpelled text y → IsRealSpelled text z → y ≡ z
one_number text y z h k = one_denoted k.parts y z (subst (λ (p : RealParts). Denotes p y) (one_real text h.parts k.parts h.is_real k.is_real) h.denotes) k.denotes

-- the words for what is no number are no number's text
nan : mantissa_at (after_sign (codes "NaN")) ≡ None
unfolding mantissa_at after_sign digits_front after_digits
nan = refl

inf : mantissa_at (after_sign (codes "INF")) ≡ None
unfolding mantissa_at after_sign digits_front after_digits
inf = refl

minus_inf : mantissa_at (after_sign (codes "-INF")) ≡ None
unfolding mantissa_at after_sign digits_front after_digits
minus_inf = refl

none_some : (m : Mantissa) → None ≡ Some m → ⊥
none_some m e = cc

no_word : (word text : List ℕ) (p : RealParts) → mantissa_at (after_sign word) ≡ None → text ≡ word → IsReal text p → ⊥
no_word word text p none e h =
    let r = real_read text p h in
    none_some _ (sym none ∙ ap (λ (t : List ℕ). mantissa_at (after_sign t)) (sym e) ∙ r.mantissa)

not_words : (text : List ℕ) (p : RealParts) → IsNotFinite text → IsReal text p → ⊥
not_words text p (inl w) h = no_word (codes "NaN") text p nan w h
not_words text p (inr (inl w)) h = no_word (codes "INF") text p inf w h
not_words text p (inr (inr w)) h = no_word (codes "-INF") text p minus_inf w h

same_fault : (e f : ValueFault) → e ≡ f → ◌≡◌ {A = Result ℤ ValueFault} (Err e) (Err f)
same_fault e f h = ap (λ (i : ValueFault). Err i) h

decimal_once : (text : List ℕ) (z : ℤ) (p : RealParts) → IsRealSpelled text z → IsReal text p → Denotes p z
decimal_once text z p h r = subst (λ (q : RealParts). Denotes q z) (one_real text h.parts p h.is_real r) h.denotes

-- what a text spells, and each of the three faults, shut one another out
pub one_real_read : (text : List ℕ) (r s : Result ℤ ValueFault) → ReadsReal text r → ReadsReal text s → r ≡ s
one_real_read text (Ok y) (Ok z) a b = ap (λ (i : ℤ). Ok i) (one_number text y z a.0 b.0)
one_real_read text (Ok z) (Err e) a (inl w) = absurd (not_words text a.0.parts w.1 a.0.is_real)
one_real_read text (Ok z) (Err e) a (inr (inl none)) = absurd (none.2 a.0.parts a.0.is_real)
one_real_read text (Ok z) (Err e) a (inr (inr far)) = absurd (far.1.2 z a.1 (decimal_once text z far.1.0 a.0 far.1.1))
one_real_read text (Err e) (Ok z) (inl w) b = absurd (not_words text b.0.parts w.1 b.0.is_real)
one_real_read text (Err e) (Ok z) (inr (inl none)) b = absurd (none.2 b.0.parts b.0.is_real)
one_real_read text (Err e) (Ok z) (inr (inr far)) b = absurd (far.1.2 z b.1 (decimal_once text z far.1.0 b.0 far.1.1))
one_real_read text (Err e) (Err f) (inl a) (inl b) = same_fault e f (a.0 ∙ sym b.0)
one_real_read text (Err e) (Err f) (inl a) (inr (inl b)) = absurd (b.1 a.1)
one_real_read text (Err e) (Err f) (inl a) (inr (inr b)) = absurd (not_words text b.1.0 a.1 b.1.1)
one_real_read text (Err e) (Err f) (inr (inl a)) (inl b) = absurd (a.1 b.1)
one_real_read text (Err e) (Err f) (inr (inl a)) (inr (inl b)) = same_fault e f (a.0 ∙ sym b.0)
one_real_read text (Err e) (Err f) (inr (inl a)) (inr (inr b)) = absurd (a.2 b.1.0 b.1.1)
one_real_read text (Err e) (Err f) (inr (inr a)) (inl b) = absurd (not_words text a.1.0 b.1 a.1.1)
one_real_read text (Err e) (Err f) (inr (inr a)) (inr (inl b)) = absurd (b.2 a.1.0 a.1.1)
one_real_read text (Err e) (Err f) (inr (inr a)) (inr (inr b)) = same_fault e f (a.0 ∙ sym b.0)
