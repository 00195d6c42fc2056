-- The entries of the tests: a number, and so many bytes.
use Rattle.std.specs.Prelude.{◌≡◌, ℕ, List, [], ◌∷◌, ◌++◌, length, take, drop}
use Rattle.std.proofs.Common.{get_or, sym, ◌∙◌, ap, ap₂}
use Rattle.std.proofs.lemmas.List.{take_at}

-- a number, and as many bytes behind it
abbrev pub IsSized : List ℕ → Type 0
IsSized [] = ⊥
IsSized (n ∷ bytes) = length bytes ≡ n

pub no_sized : IsSized [] → ⊥
no_sized is = is

-- of two that stand first, neither is longer
pub one_sized : (a b x y : List ℕ) → IsSized a → IsSized b → a ++ x ≡ b ++ y → a ≡ b
one_sized [] b x y is is' same = absurd is
one_sized (m ∷ a) [] x y is is' same = absurd is'
one_sized (m ∷ a) (n ∷ b) x y is is' same =
    let count : m ≡ n = ap (λ (l : List ℕ). get_or l 0 0) same in
    let rest : a ++ x ≡ b ++ y = ap (λ (l : List ℕ). drop 1 l) same in
    ap₂ (λ (k : ℕ) (l : List ℕ). k ∷ l) count (sym (take_at a x m is) ∙ ap (λ (k : ℕ). take k (a ++ x)) count ∙ ap (λ (l : List ℕ). take n l) rest ∙ take_at b y n is')
