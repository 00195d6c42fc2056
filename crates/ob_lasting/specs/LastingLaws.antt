-- The laws of a site that is restarted.
use Rattle.std.specs.Prelude.{◌≡◌, ◌≢◌, ℕ, ◌^◌, ◌<◌, max, List, [], ◌∷◌, ◌++◌, Option, Some, None}
use Rattle.std.specs.List.{AllByRecursion}
use Rattle.ob_watching.specs.Operations.{Itself, NewWatch}
use Rattle.ob_watching.specs.Sites.{Site}
use Rattle.ob_watching.specs.Tables.{lookup, numbers_of}
use Rattle.ob_watching.specs.Watches.{World, act, begun, IsSound}
use Rattle.ob_watching.specs.Clients.{Asking}
use Rattle.ob_watching.specs.Laws.{after, Begins, Ends, Holds, IsMake, IsOn, IsNotFound, WasMade}
use Rattle.ob_lasting.specs.Lasting.{IsRestartOf}
use Rattle.ob_lasting.specs.Records.{Request, Noted, calls_of, notes_of, renewed, replayed, IsRecorded}
use Rattle.ob_lasting.specs.Runs.{Segment, IsAtMoment, GoesOn, IsHistoryWithRestarts}

module _ (m : Site) where
  -- In a sound state only the site's own request may change the site: one for a watch, or for nothing, leaves it as it was.
  abbrev pub LeavesSite : Type 0
  LeavesSite = (w : World m) → IsSound m w → (r : m.Request) (moment : ℕ) →
      (m.target r ≡ Itself → (m.act w.site (numbers_of (begun m w moment).watches) r (begun m w moment).time).0 ≡ w.site) →
      (act m w r moment).0.site ≡ w.site

  -- only a make changes the number of the next watch
  abbrev pub LeavesNext : Type 0
  LeavesNext = (w : World m) (r : m.Request) (moment : ℕ) → m.target r ≢ NewWatch → (act m w r moment).0.next ≡ w.next

  -- A record that is replayed from a restart of the state in which a history began leads to a restart of the state that the
  -- history leaves.
  abbrev pub RecordLasts : Type 0
  RecordLasts = (old new : World m) → IsRestartOf m old new → (noted : List (Noted m)) → IsRecorded m old new noted →
      IsRestartOf m (after m old (calls_of m noted)) (replayed m new (notes_of m old noted))

  -- a run of this site
  abbrev pub Run : Type 0
  Run = Segment (World m) m.Request m.Sent

  -- The next run may start in the state that the record of this one leads to; or, where a request was never answered but is in
  -- the record, in the state to which its note leads then.
  abbrev pub RecordGoesOn : Type 0
  RecordGoesOn = (run : Run) (new : World m) → IsRestartOf m run.start new →
      (noted : List (Noted m)) → calls_of m noted ≡ run.calls → IsRecorded m run.start new noted → (next : Run) →
      let led : World m = replayed m new (notes_of m run.start noted) in
      (next.start ≡ led → GoesOn (act m) (IsRestartOf m) run next)
      × ((r : m.Request) (moment : ℕ) → run.lost ≡ Some (r, moment) →
      next.start ≡ renewed m led (Request r (max (after m run.start run.calls).time moment)) → GoesOn (act m) (IsRestartOf m) run next)

  -- runs of this site, each from a restart of where the one before it may have ended
  abbrev pub IsHistory : List Run → Type 0
  IsHistory = IsHistoryWithRestarts (act m) (IsRestartOf m)

  -- A history that is cut off at any place of a run is one, whatever request was on its way then.
  abbrev pub CutOff : Type 0
  CutOff = (earlier : List Run) (run : Run) (later : List Run) → IsHistory (earlier ++ run ∷ later) →
      (before rest : List (Asking m)) → before ++ rest ≡ run.calls → (lost : Option (m.Request × ℕ)) → IsAtMoment (act m) lost →
      IsHistory (earlier ++ record { start = run.start; calls = before; lost = lost } ∷ [])

  -- the first run starts in a sound state
  abbrev pub StartsSound : List Run → Type 0
  StartsSound [] = Unit {0}
  StartsSound (run ∷ runs) = IsSound m run.start

  -- so does each
  abbrev pub EachStartsSound : Type 0
  EachStartsSound = (runs : List Run) → IsHistory runs → StartsSound runs → AllByRecursion (λ run. IsSound m run.start) runs

  -- In these calls from a state the watch stands nowhere, no make answers with its number, and each request for it is answered
  -- with BadUriErr or for want of memory.
  pub record IsGoneIn (n : ℕ) (start : World m) (calls : List (Asking m)) : Type 0 where
    pub nowhere : (before later : List (Asking m)) → before ++ later ≡ calls → lookup n (after m start before).watches ≡ None
    pub answers : AllByRecursion (λ e. (IsMake m n e → ⊥) × (IsOn m n e → IsNotFound m e.answer)) calls

  -- A watch that was made is gone in every later run; and where it is gone in its own run it stays so there.
  abbrev pub WatchStaysGoneOverRestarts : ℕ → Type 0
  WatchStaysGoneOverRestarts n = n < 2 ^ 64 → (earlier : List Run) (run : Run) (later : List Run) →
      IsHistory (earlier ++ run ∷ later) → StartsSound (earlier ++ run ∷ later) →
      (before rest : List (Asking m)) → before ++ rest ≡ run.calls → WasMade m run.start n before →
      (lookup n (after m run.start before).watches ≡ None → IsGoneIn n (after m run.start before) rest)
      × AllByRecursion (λ r. IsGoneIn n r.start r.calls) later

  -- A client that replays the calls on a watch within one run, from its make on or from any pollRefresh on, holds after each
  -- answered poll what is watched, whatever came before that run.
  abbrev pub WatchReplaysOverRestarts : ℕ → Type 0
  WatchReplaysOverRestarts n = n < 2 ^ 64 → (earlier : List Run) (run : Run) (later : List Run) →
      IsHistory (earlier ++ run ∷ later) → StartsSound (earlier ++ run ∷ later) →
      (before part rest : List (Asking m)) → (before ++ part) ++ rest ≡ run.calls →
      Begins m n part → Ends m n part → Holds m n (after m run.start before) part
