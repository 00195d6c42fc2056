-- What a clock tells of its twins.
use Rattle.std.specs.Prelude.{◌≡◌, ℕ, List, Option, Some, [], ◌∷◌, IsSome, IfSome}
use Rattle.ob_io.specs.Told.{Gains}

-- a twin that came back: its count of faults, and the moments that it gave
pub record Twin : Type 0 where
  pub faults : ℕ
  pub moments : List ℕ

-- the twin is what the clock tells
pub record IsTwin (twin : Twin) (given : Option (List ℕ)) (faults : ℕ) : Type 0 where
  pub faults_are : twin.faults ≡ faults
  pub moments_are : given ≡ Some twin.moments

-- a clock that has not failed, and has given no moment
pub record IsNew (given : Option (List ℕ)) (faults : ℕ) : Type 0 where
  pub given_none : IfSome given (λ moments. moments ≡ [])
  pub faults_none : faults ≡ 0

-- where the twins are told, this clock is the last of them
abbrev pub GainsTwin : Option (List Twin) → Option (List Twin) → Option (List ℕ) → ℕ → Type 0
GainsTwin before after given faults =
    (twin : Twin) × Gains before (twin ∷ []) after × (IsSome after → IsTwin twin given faults)
