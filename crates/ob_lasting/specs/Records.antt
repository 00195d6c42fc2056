-- What a record keeps of a history, and what it gives when it is replayed.
use Rattle.std.specs.Prelude.{◌≡◌, ℕ, ◌+◌, ◌≤◌, max, List, [], ◌∷◌, ◌++◌, map}
use Rattle.ob_machine.specs.declared.call.Answer.TheVariants.{Done}
use Rattle.ob_watching.specs.Sites.{Site}
use Rattle.ob_watching.specs.Watches.{World, last_number, act}
use Rattle.ob_watching.specs.Clients.{Asking}
use Rattle.ob_watching.specs.Laws.{step}
use Rattle.ob_lasting.specs.Lasting.{restarted}

-- A note of a record: a request, with the site's time at it; or that each watch number below this one may have been given.
pub data NoteOf (Request : Type 0) : Type 0 where
  Request : (request : Request) → (time : ℕ) → NoteOf Request
  Numbers : (below : ℕ) → NoteOf Request

-- what is noted of a call: nothing, its request, or numbers of watches
pub data Noting : Type 0 where
  Nothing : Noting
  TheRequest : Noting
  NumbersBelow : (below : ℕ) → Noting

module _ (m : Site) where
  -- a note of a record of this site
  abbrev pub Note : Type 0
  Note = NoteOf m.Request

  -- What a note makes of a state without watches: the step is done again, and its watches are dropped.
  abbrev pub renewed : World m → Note → World m
  renewed w (Request r time) = (let done : World m = (act m w r time).0 in restarted m done done.time)
  renewed w (Numbers below) = record w { next = max w.next below }

  -- the state that a record leads to
  abbrev pub replayed : World m → List Note → World m
  replayed w [] = w
  replayed w (note ∷ notes) = replayed (renewed w note) notes

  -- a call of a history, and what is noted of it
  abbrev pub Noted : Type 0
  Noted = Asking m × Noting

  -- the calls alone
  abbrev pub calls_of : List Noted → List (Asking m)
  calls_of noted = map (λ n. n.0) noted

  -- the note of a call at this state
  abbrev pub notes_at : World m → Asking m → Noting → List Note
  notes_at w e Nothing = []
  notes_at w e TheRequest = Request e.request (max w.time e.moment) ∷ []
  notes_at w e (NumbersBelow below) = Numbers below ∷ []

  -- the notes of all calls of a history from this state
  abbrev pub notes_of : World m → List Noted → List Note
  notes_of w [] = []
  notes_of w (n ∷ noted) = notes_at w n.0 n.1 ++ notes_of (step m w n.0) noted

  -- A call may be left out where it leaves the site as it was, and no number that it gives is one that the record's own state
  -- would give again. A request is noted where its step was done.
  abbrev pub IsNoted : World m → World m → Asking m → Noting → Type 0
  IsNoted w record_state e Nothing = ((step m w e).site ≡ w.site) × ((step m w e).next ≤ record_state.next)
  IsNoted w record_state e TheRequest = (reply : m.Sent) × (e.answer ≡ Done reply)
  IsNoted w record_state e (NumbersBelow below) = ((step m w e).site ≡ w.site) × ((step m w e).next ≤ below) × (below ≤ last_number + 1)

  -- each call of a history from this state is noted as it must be, where the record led to that state so far
  abbrev pub IsRecorded : World m → World m → List Noted → Type 0
  IsRecorded w record_state [] = Unit {0}
  IsRecorded w record_state (n ∷ noted) =
      IsNoted w record_state n.0 n.1 × IsRecorded (step m w n.0) (replayed record_state (notes_at w n.0 n.1)) noted
