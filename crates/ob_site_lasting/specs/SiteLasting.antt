-- What lasts of the whole site, and its laws over restarts.
use Rattle.std.specs.Prelude.{◌≡◌, ℕ, ◌^◌, ◌<◌, ◌≤◌, max, List, [], ◌∷◌, ◌++◌, Option, Some, None}
use Rattle.std.specs.List.{AllByRecursion}
use Rattle.ob_values.specs.declared.verb.Verb.TheVariants.{Get}
use Rattle.ob_machine.specs.History.{after}
use Rattle.ob_object.specs.Object.{Object}
use Rattle.ob_watching.specs.Sites.{Site}
use Rattle.ob_watching.specs.Tables.{lookup}
use Rattle.ob_watching.specs.Watches.{World}
use Rattle.ob_watching.specs.Laws.{WasMade, IsMake, IsOn, IsNotFound}
use Rattle.ob_site_rules.specs.declared.request.Request.{Request}
use Rattle.ob_site_rules.specs.declared.plan.Plan.{Plan}
use Rattle.ob_site_rules.specs.Sites.{SiteState}
use Rattle.ob_site_laws.specs.SiteLaws.{acts, of_plan, Call, IsSoundSite}
use Rattle.ob_site_laws.specs.Seen.{KeepsWatches}
use Rattle.ob_lasting.specs.Lasting.{IsRestartOf, IsApart, DoneAgain, DoneAgainFurther}
use Rattle.ob_lasting.specs.Records.{Request as TheRequest, Noted, calls_of, notes_of, renewed, replayed, IsRecorded}
use Rattle.ob_lasting.specs.Runs.{Segment, IsAtMoment, GoesOn, IsHistoryWithRestarts}

-- what a request leaves of the site of a plan doesn't depend on which watches stand
abbrev pub SiteIsApart : Type 0
SiteIsApart = (plan : Plan) → IsApart (of_plan plan)

-- a step of the site done again after a restart leaves the same of what lasts
abbrev pub SiteDoneAgain : Type 0
SiteDoneAgain = (plan : Plan) → DoneAgain (of_plan plan)

-- and after any restart, numbers passed over, it leaves a restart of what it left
abbrev pub SiteDoneAgainFurther : Type 0
SiteDoneAgainFurther = (plan : Plan) → DoneAgainFurther (of_plan plan)

-- The site goes on from a new state after a restart: of the same plan, with the same tree, library, logs, alarms and events.
pub record IsSiteRestartOf (old new : SiteState) : Type 0 where
  pub plan : new.plan ≡ old.plan
  pub world : IsRestartOf (of_plan old.plan) old.world new.world

-- what lasts of the state is as it was
pub record LeavesAll (st left : SiteState) : Type 0 where
  pub plan : left.plan ≡ st.plan
  pub site : left.world.site ≡ st.world.site
  pub next : left.world.next ≡ st.world.next

-- a read leaves all of it
abbrev pub ReadsLeaveAll : Type 0
ReadsLeaveAll = (st : SiteState) → IsSoundSite st → (r : Request) → r.verb ≡ Get → (moment : ℕ) → LeavesAll st (acts st r moment).0

-- and so does a request for a watch
abbrev pub WatchesLeaveAll : Type 0
WatchesLeaveAll = (st : SiteState) → IsSoundSite st → (n : ℕ) (e : Call) → IsOn (of_plan st.plan) n e → LeavesAll st (acts st e.request e.moment).0

-- a call of the site of a plan, and what is noted of it
abbrev pub SiteNoted : Plan → Type 0
SiteNoted plan = Noted (of_plan plan)

-- A record of a history of the site, replayed from a restart of where it began, leads to a restart of where it ended.
abbrev pub SiteRecordLasts : Type 0
SiteRecordLasts = (old new : SiteState) → IsSoundSite old → IsSiteRestartOf old new →
    (noted : List (SiteNoted old.plan)) → IsRecorded (of_plan old.plan) old.world new.world noted →
    IsSiteRestartOf (after acts old (calls_of (of_plan old.plan) noted))
    (record { plan = old.plan; world = replayed (of_plan old.plan) new.world (notes_of (of_plan old.plan) old.world noted) })

-- a run of the whole site
abbrev pub Run : Type 0
Run = Segment SiteState Request Object

-- The next run of the site may start in the state that the record of this one leads to; or, where a request was never answered
-- but is in the record, in the state to which its note leads then.
abbrev pub SiteRecordGoesOn : Type 0
SiteRecordGoesOn = (run : Run) → IsSoundSite run.start → (new : SiteState) → IsSiteRestartOf run.start new →
    let m : Site = of_plan run.start.plan in
    (noted : List (SiteNoted run.start.plan)) → calls_of m noted ≡ run.calls → IsRecorded m run.start.world new.world noted → (next : Run) →
    let led : World m = replayed m new.world (notes_of m run.start.world noted) in
    (next.start ≡ record { plan = run.start.plan; world = led } → GoesOn acts IsSiteRestartOf run next)
    × ((r : Request) (moment : ℕ) → run.lost ≡ Some (r, moment) →
    next.start ≡ record { plan = run.start.plan; world = renewed m led (TheRequest r (max (after acts run.start run.calls).world.time moment)) } →
    GoesOn acts IsSiteRestartOf run next)

-- the first run starts in a sound state
abbrev pub StartsSound : List Run → Type 0
StartsSound [] = Unit {0}
StartsSound (run ∷ runs) = IsSoundSite run.start

-- In these calls from a state the watch stands nowhere, no make answers with its number, and each request for it is answered
-- with BadUriErr or for want of memory.
pub record IsGoneIn (n : ℕ) (start : SiteState) (calls : List Call) : Type 0 where
  pub nowhere : (before later : List Call) → before ++ later ≡ calls → lookup n (after acts start before).world.watches ≡ None
  pub answers : AllByRecursion (λ e. (IsMake (of_plan start.plan) n e → ⊥) × (IsOn (of_plan start.plan) n e → IsNotFound (of_plan start.plan) e.answer)) calls

-- IsRestart old new: the site may go on from new where it ended in old
module _ (IsRestart : SiteState → SiteState → Type 0) where
  -- A restart of a sound state is sound, no watch stands in it, and it gives no number again.
  pub record KeepsNumbers : Type 0 where
    pub sound : (old new : SiteState) → IsRestart old new → IsSoundSite old → IsSoundSite new
    pub watches : (old new : SiteState) → IsRestart old new → new.world.watches ≡ []
    pub next : (old new : SiteState) → IsRestart old new → old.world.next ≤ new.world.next

  -- one run of the site after the other, each from a restart of where the one before it may have ended
  abbrev pub IsSiteHistory : List Run → Type 0
  IsSiteHistory = IsHistoryWithRestarts acts IsRestart

  -- A history that is cut off at any place of a run is one, whatever request was on its way then.
  abbrev pub SiteCutOff : Type 0
  SiteCutOff = (earlier : List Run) (run : Run) (later : List Run) → IsSiteHistory (earlier ++ run ∷ later) →
      (before rest : List Call) → before ++ rest ≡ run.calls → (lost : Option (Request × ℕ)) → IsAtMoment acts lost →
      IsSiteHistory (earlier ++ record { start = run.start; calls = before; lost = lost } ∷ [])

  -- each run starts in a sound state, and keeps the laws of watches in all that was seen of it
  abbrev pub EachRunKeepsWatches : Type 0
  EachRunKeepsWatches = (runs : List Run) → IsSiteHistory runs → StartsSound runs →
      AllByRecursion (λ run. IsSoundSite run.start × KeepsWatches run.start run.calls) runs

  -- A watch that was made in some run is gone in every later one; and where it is gone in its own run it stays so there.
  abbrev pub GoneOverRestarts : ℕ → Type 0
  GoneOverRestarts n = n < 2 ^ 64 → (earlier : List Run) (run : Run) (later : List Run) →
      IsSiteHistory (earlier ++ run ∷ later) → StartsSound (earlier ++ run ∷ later) →
      (before rest : List Call) → before ++ rest ≡ run.calls → WasMade (of_plan run.start.plan) run.start.world n before →
      (lookup n (after acts run.start before).world.watches ≡ None → IsGoneIn n (after acts run.start before) rest)
      × AllByRecursion (λ r. IsGoneIn n r.start r.calls) later
