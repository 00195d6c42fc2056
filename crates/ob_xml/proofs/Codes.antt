-- A short name is read back from its number.
use Rattle.std.proofs.Common.{◌≡◌, ℕ, ◌+◌, ◌-◌, ◌*◌, ◌/◌, ◌%◌, ◌^◌, ◌<◌, ◌≤◌, true, false, cond, zero, suc, List, [], ◌∷◌, ◌++◌, length, get_or, refl, ap, ◌∙◌, arith, lit<}
use Rattle.std.specs.Prelude.{nat_le}
use Rattle.std.proofs.Math.Nat.{pow-suc, pow-le-pow_right}
use Rattle.std.proofs.lemmas.Bool.Decides.{nat_tests}
use Rattle.ob_xml.specs.Codes.{code_from, code_of, digits, max_short, name_of}

-- bytes
abbrev pub AreBytes : List ℕ → Type 0
AreBytes [] = Unit {0}
AreBytes (b ∷ bytes) = (b < 256) × AreBytes bytes

pub are_bytes : (bytes : List ℕ) → ((k : ℕ) → k < length bytes → get_or bytes k 0 < 256) → AreBytes bytes
are_bytes [] h = tt
are_bytes (b ∷ bytes) h = (h 0 (omega arith), are_bytes bytes (λ k lt. h (suc k) (omega arith)))

pub digits_len : (k n : ℕ) (bytes : List ℕ) → length (digits k n bytes) ≤ k + length bytes
digits_len zero n bytes = omega arith
digits_len (suc k) n bytes = elim (nat_le n 1) as (λ v. length (cond v bytes (digits k (n / 256) (n % 256 ∷ bytes))) ≤ suc k + length bytes) [
  | true ↦ omega arith
  | false ↦ omega (arith, digits_len k (n / 256) (n % 256 ∷ bytes))
]

pub name_len : (n : ℕ) → length (name_of n) ≤ 15
unfolding name_of
name_len n = omega (arith, digits_len max_short n [])

-- the last digit
last_digit : (n b : ℕ) → b < 256 → (n * 256 + b) / 256 ≡ n
last_digit n b lt = omega arith

last_rest : (n b : ℕ) → b < 256 → (n * 256 + b) % 256 ≡ b
last_rest n b lt = omega arith

one_digit : (k n b : ℕ) (bytes : List ℕ) → 0 < n → b < 256 → digits (suc k) (n * 256 + b) bytes ≡ digits k n (b ∷ bytes)
one_digit k n b bytes pos lt =
    let more : nat_le (n * 256 + b) 1 ≡ false = grind (arith, nat_tests) in
    rw more (ap (λ (m : ℕ). digits k m ((n * 256 + b) % 256 ∷ bytes)) (last_digit n b lt) ∙ ap (λ (m : ℕ). digits k n (m ∷ bytes)) (last_rest n b lt))

pub digits_back : (bytes behind : List ℕ) (k n : ℕ) → 0 < n → AreBytes bytes → digits (length bytes + k) (code_from n bytes) behind ≡ digits k n (bytes ++ behind)
digits_back [] behind k n pos h = let e : 0 + k ≡ k = omega arith in ap (λ (m : ℕ). digits m n behind) e
digits_back (b ∷ bytes) behind k n pos h =
    let e : length (b ∷ bytes) + k ≡ length bytes + suc k = omega arith in
    ap (λ (m : ℕ). digits m (code_from (n * 256 + b) bytes) behind) e
    ∙ digits_back bytes behind (suc k) (n * 256 + b) (omega arith) h.1
    ∙ one_digit k n b (bytes ++ behind) pos h.0

done : (k : ℕ) (bytes : List ℕ) → digits k 1 bytes ≡ bytes
done zero bytes = refl
done (suc k) bytes = refl

append_none : (bytes : List ℕ) → bytes ++ [] ≡ bytes
append_none [] = refl
append_none (b ∷ bytes) = ap (λ (xs : List ℕ). b ∷ xs) (append_none bytes)

pub read_back : (bytes : List ℕ) → AreBytes bytes → length bytes ≤ 15 → name_of (code_of bytes) ≡ bytes
unfolding name_of
read_back bytes h le =
    let e : max_short ≡ length bytes + (15 - length bytes) = omega arith in
    ap (λ (m : ℕ). digits m (code_from 1 bytes) []) e
    ∙ digits_back bytes [] (15 - length bytes) 1 (omega arith) h
    ∙ done (15 - length bytes) (bytes ++ [])
    ∙ append_none bytes

-- ---- the number fits 128 bits

pub one_more : (i n b : ℕ) → n < 2 * 256 ^ i → b < 256 → n * 256 + b < 2 * 256 ^ (i + 1)
one_more i n b lt small = let e : 256 ^ (i + 1) ≡ 256 ^ i * 256 = ap (λ (k : ℕ). 256 ^ k) (omega arith) ∙ pow-suc 256 i in omega (arith, e)

pub has_room : (i n : ℕ) → n < 2 * 256 ^ i → i ≤ 15 → n < 2 ^ 128
has_room i n lt le =
    let most : 256 ^ i ≤ 256 ^ 15 = pow-le-pow_right (omega arith) le in
    let room : 2 * 256 ^ 15 < 2 ^ 128 = lit< tt in
    omega arith
