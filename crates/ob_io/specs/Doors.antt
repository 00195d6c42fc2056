-- What a port tells: where it listened, and the doors that came back.
use Rattle.std.specs.Prelude.{◌≡◌, ℕ, Bool, List, [], ◌∷◌, Option, Some, IsSome, IfSome}
use Rattle.ob_io.specs.Told.{Gains}
use Rattle.ob_io.specs.Dials.{Dial}
use Rattle.ob_io.specs.Visits.{Visit}

-- a place that was listened on: the host, the port, and whether that failed
abbrev pub Listening : Type 0
Listening = Dial

-- a door that came back: its count of faults, how many links it handed out and has back, whether it is closed, and the
-- links that it has back
pub record Doorway : Type 0 where
  pub faults : ℕ
  pub handed : ℕ
  pub returned : ℕ
  pub closed : Bool
  pub visits : List Visit

-- the doorway is what the door tells
pub record IsDoorway (doorway : Doorway) (faults handed returned : ℕ) (closed : Bool) (visits : Option (List Visit)) : Type 0 where
  pub faults_are : doorway.faults ≡ faults
  pub handed_are : doorway.handed ≡ handed
  pub returned_are : doorway.returned ≡ returned
  pub closed_is : doorway.closed ≡ closed
  pub visits_are : visits ≡ Some doorway.visits

-- a door that has not failed, has handed out no link and has none back
pub record IsUnused (faults handed returned : ℕ) (visits : Option (List Visit)) : Type 0 where
  pub faults_none : faults ≡ 0
  pub handed_none : handed ≡ 0
  pub returned_none : returned ≡ 0
  pub visits_none : IfSome visits (λ links. links ≡ [])

-- where the doors are told, this one is the last of them
abbrev pub GainsDoor : Option (List Doorway) → Option (List Doorway) → ℕ → ℕ → ℕ → Bool → Option (List Visit) → Type 0
GainsDoor before after faults handed returned closed visits =
    (doorway : Doorway) × Gains before (doorway ∷ []) after × (IsSome after → IsDoorway doorway faults handed returned closed visits)
