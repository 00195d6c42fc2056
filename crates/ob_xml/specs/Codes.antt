-- A short name as one number.
use Rattle.std.specs.Prelude.{◌≡◌, ℕ, ◌+◌, ◌*◌, ◌/◌, ◌%◌, ◌≤◌, ◌==◌, zero, suc, nat_le, true, false, List, [], ◌∷◌, length, if◌then◌else◌}
use Rattle.std.specs.List.{list_any}
use Rattle.std.specs.Ordering.{nat_cmp, eq_by_cmp}
use Rattle.std.specs.Cmp.Lexicographic.{slice_cmp}

-- the bytes as further digits, to the base 256
abbrev pub code_from : ℕ → List ℕ → ℕ
code_from n [] = n
code_from n (b ∷ bytes) = code_from (n * 256 + b) bytes

-- the bytes as one number, behind a first digit of 1 that tells where they begin
abbrev pub code_of : List ℕ → ℕ
code_of bytes = code_from 1 bytes

-- at most so many last digits before these bytes, without the first one
abbrev pub digits : ℕ → ℕ → List ℕ → List ℕ
digits zero n bytes = bytes
digits (suc k) n bytes = if nat_le n 1 then bytes else digits k (n / 256) (n % 256 ∷ bytes)

-- the most bytes of a short name
abbrev pub max_short : ℕ
max_short = 15

-- the short name of a number
unfoldable pub name_of : ℕ → List ℕ
name_of n = digits max_short n []

-- each number is that of its name
abbrev pub AreCodes : List ℕ → Type 0
AreCodes ks = (k : ℕ) → list_any (λ x. k == x) ks ≡ true → code_of (name_of k) ≡ k

-- no short name is among the names
abbrev pub AreLong : List (List ℕ) → Type 0
AreLong names = (q : List ℕ) → length q ≤ max_short → list_any (eq_by_cmp (slice_cmp nat_cmp) q) names ≡ false
