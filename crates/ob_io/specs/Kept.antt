-- What is told of things that are kept while there is room for them.
use Rattle.std.specs.Prelude.{ℕ, Bool, if◌then◌else◌, List, [], ◌∷◌, map, Option, Some, None, option_map}
use Rattle.ob_io.specs.Visits.{Visit}
use Rattle.ob_io.specs.Dials.{Dial}
use Rattle.ob_io.specs.Doors.{Doorway}
use Rattle.ob_io.specs.declared.kept.Place.{Place}

module _ {A : Type 0} where
  -- all of them, where each is there
  abbrev pub all_of : List (Option A) → Option (List A)
  all_of [] = Some []
  all_of (None ∷ more) = None
  all_of (Some x ∷ more) = option_map (λ xs. x ∷ xs) (all_of more)

module _ {T A : Type 0} where
  -- what is told of each of these, while there was room for all
  abbrev pub told_of : (T → Option A) → Bool → List T → Option (List A)
  told_of tell has_room things = if has_room then all_of (map tell things) else None

-- the visit of a link, where the link tells all of it
abbrev pub visit_of : Option (List ℕ) → Option (List ℕ) → Option (List ℕ) → ℕ → ℕ → Option Visit
visit_of (Some left) (Some taken) (Some held) reads writes =
    Some (record { reads = reads; writes = writes; taken = taken; written = held; left = left })
visit_of left taken held reads writes = None

-- the doorway of a door, where the door tells its links
abbrev pub doorway_of : ℕ → ℕ → ℕ → Bool → Option (List Visit) → Option Doorway
doorway_of faults handed returned closed (Some visits) =
    Some (record { faults = faults; handed = handed; returned = returned; closed = closed; visits = visits })
doorway_of faults handed returned closed None = None

module _ {L : Type 0} (left taken held : L → Option (List ℕ)) (reads writes : L → ℕ) where
  abbrev pub visits_of : Bool → List L → Option (List Visit)
  visits_of has_room links =
      told_of (λ (link : L). visit_of (left link) (taken link) (held link) (reads link) (writes link)) has_room links

module _ {D : Type 0} (faults handed returned : D → ℕ) (closed : D → Bool) (visits : D → Option (List Visit)) where
  abbrev pub doorways_of : Bool → List D → Option (List Doorway)
  doorways_of has_room doors =
      told_of (λ (door : D). doorway_of (faults door) (handed door) (returned door) (closed door) (visits door)) has_room doors

abbrev pub dial_of : Place → Dial
dial_of place = record { host = place.host.items; port = place.port; failed = place.failed }

abbrev pub dials_of : Bool → List Place → Option (List Dial)
dials_of has_room places = if has_room then Some (map dial_of places) else None
