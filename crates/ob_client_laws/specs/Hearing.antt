-- A mirror that hears the replies on a watch of the site, over every legal history from any sound state.
use Rattle.std.specs.Prelude.{◌≡◌, ◌≢◌, ◌⊎◌, ℕ, ◌^◌, ◌<◌, Bool, true, false, List, [], ◌∷◌, ◌++◌, Option, Some, None, Result, Ok, Err}
use Rattle.std.specs.List.{AllByRecursion}
use Rattle.ob_machine.specs.History.{after, IsLegal}
use Rattle.ob_machine.specs.declared.call.Answer.{Answer}
use Rattle.ob_machine.specs.declared.call.Answer.TheVariants.{Done, NoMemory}
use Rattle.ob_object.specs.declared.kind.Kind.TheVariants as kind
use Rattle.ob_object.specs.Object.{Object}
use Rattle.ob_watching.specs.Operations.{Add, Remove, PollChanges, PollRefresh, OneWatch}
use Rattle.ob_watching.specs.Clients.{calls, watched}
use Rattle.ob_watching.specs.Clients as clients
use Rattle.ob_watching.specs.Laws.{IsRead, Begins, Ends, HoldsAll, EachExact, KeepsItem, HadEvent, whole_at}
use Rattle.ob_watching.specs.Laws as watches
use Rattle.ob_watching.specs.Tables.{lookup}
use Rattle.ob_watching.specs.Watches.{Watch, World, Asks}
use Rattle.ob_watching.specs.WatchOuts.{Text, Held, is_of_kind, entries_of}
use Rattle.ob_site_rules.specs.declared.plan.Plan.{Plan}
use Rattle.ob_site_rules.specs.Sites.{SiteState}
use Rattle.ob_site_laws.specs.SiteLaws.{acts, of_plan, IsSoundSite, KeepsAllOf}
use Rattle.ob_site_laws.specs.SiteLaws as site
use Rattle.ob_client.specs.Mirrors.{Mirrored, empty, removed, Refreshes, Adds, Changes}
use Rattle.ob_client.specs.declared.mirror_fault.MirrorFault.{MirrorFault}
use Rattle.ob_client.specs.declared.mirror_fault.MirrorFault.TheVariants.{Memory}
use Rattle.ob_client_laws.specs.Counting.{AreCounted}

-- a WatchOut is handed over, and what is none leaves the mirror as it was
abbrev pub IfOut : Option (List Object) → Type 0 → Mirrored → Mirrored → Type 0
IfOut None Handed old new = new ≡ old
IfOut (Some os) Handed old new = Handed

-- The mirror had memory for what it was handed, whatever it answered.
abbrev pub Answered : (Result (Unit {0}) MirrorFault → Type 0) → Type 0
Answered Answers = (answer : Result (Unit {0}) MirrorFault) × Answers answer × (answer ≢ Err Memory)

-- a remove that was done is told
abbrev pub IfDone : Bool → List Text → Mirrored → Mirrored → Type 0
IfDone true texts old new = new ≡ old
IfDone false texts old new = new ≡ removed texts old

-- What becomes of a mirror by a call on the watch and its reply: each WatchOut is handed to it, and each remove that wasn't
-- refused is told to it. Nothing else is.
abbrev pub Hears : (plan : Plan) → Asks (of_plan plan) → Answer Object → Mirrored → Mirrored → Type 0
Hears plan op NoMemory old new = new ≡ old
Hears plan (Add asked) (Done reply) old new = IfOut (entries_of reply) (Answered (Adds old new reply)) old new
Hears plan (Remove texts) (Done reply) old new = IfDone (is_of_kind kind.Err reply) texts old new
Hears plan PollChanges (Done reply) old new = IfOut (entries_of reply) (Answered (Changes old new reply)) old new
Hears plan PollRefresh (Done reply) old new = IfOut (entries_of reply) (Answered (Refreshes old new reply)) old new
Hears plan _ (Done reply) old new = new ≡ old

-- the calls on a watch, one after the other
abbrev pub HearsAll : (plan : Plan) → List (clients.Call (of_plan plan)) → Mirrored → Mirrored → Type 0
HearsAll plan [] old new = new ≡ old
HearsAll plan (c ∷ cs) old new = (mid : Mirrored) × Hears plan c.operation c.answer old mid × HearsAll plan cs mid new

-- the part begins with an answered pollRefresh of the watch
abbrev pub BeginsAnew : (plan : Plan) → ℕ → List site.Call → Type 0
BeginsAnew plan n [] = ⊥
BeginsAnew plan n (e ∷ es) = IsRead (of_plan plan) n PollRefresh e

-- The mirror is empty at first, as at the make of the watch; or the first reply is that to a pollRefresh, and it may hold
-- anything, and may have lost a reply.
abbrev pub IsReady : (plan : Plan) → ℕ → List site.Call → Mirrored → Type 0
IsReady plan n part first = (first ≡ empty) ⊎ BeginsAnew plan n part

-- The mirror of watch n holds what is watched after this part of a history, which began in this state.
pub record HoldsWatched (plan : Plan) (n : ℕ) (w : World (of_plan plan)) (part : List site.Call) (list : List Held) : Type 0 where
  pub watch : Watch (of_plan plan)
  pub stands : lookup n (watches.after (of_plan plan) w part).watches ≡ Some watch
  pub held : HoldsAll (of_plan plan) (watches.after (of_plan plan) w part).site (whole_at (of_plan plan) n w part (λ _. w.site)) (HadEvent (of_plan plan) w part) watch.items list
  -- each exactly where nothing rolled off of it since it was given whole
  pub each : EachExact (of_plan plan) (watches.after (of_plan plan) w part).site (whole_at (of_plan plan) n w part (λ _. w.site)) watch.items list
  -- exactly, as a list, where nothing rolled off since it was given whole
  pub exact : AllByRecursion (λ item. KeepsItem (of_plan plan) (watches.after (of_plan plan) w part).site (whole_at (of_plan plan) n w part (λ _. w.site) item.text) item.path item.tracked) watch.items
      → Some list ≡ watched (of_plan plan) n (watches.after (of_plan plan) w part)

-- what the mirror may answer to the WatchOut that is the reply to an operation
abbrev pub Answers : (plan : Plan) → Asks (of_plan plan) → Object → Mirrored → Mirrored → Result (Unit {0}) MirrorFault → Type 0
Answers plan (Add asked) reply old new answer = Adds old new reply answer
Answers plan PollChanges reply old new answer = Changes old new reply answer
Answers plan PollRefresh reply old new answer = Refreshes old new reply answer
Answers plan _ reply old new answer = ⊥

-- A mirror that heard the replies on a watch up to here refuses none: it takes the next WatchOut, or it has no memory for it.
abbrev pub MirrorRefusesNone : ℕ → Type 0
MirrorRefusesNone n = n < 2 ^ 64 → (start : SiteState) → IsSoundSite start → AreCounted start.world.site →
    (before part : List site.Call) (e : site.Call) → IsLegal acts start (before ++ (part ++ e ∷ [])) →
    Begins (of_plan start.plan) n (part ++ e ∷ []) →
    (first mirror : Mirrored) → IsReady start.plan n (part ++ e ∷ []) first →
    HearsAll start.plan (calls (of_plan start.plan) n part) first mirror →
    (op : Asks (of_plan start.plan)) → (of_plan start.plan).target e.request ≡ OneWatch n op →
    (reply : Object) → e.answer ≡ Done reply → (os : List Object) → entries_of reply ≡ Some os →
    (new : Mirrored) (answer : Result (Unit {0}) MirrorFault) → Answers start.plan op reply mirror new answer →
    (answer ≡ Ok tt) ⊎ (answer ≡ Err Memory)

-- A mirror that heard the replies on a watch holds after each answered poll what is watched.
abbrev pub MirrorsHold : ℕ → Type 0
MirrorsHold n = n < 2 ^ 64 → (start : SiteState) → IsSoundSite start → AreCounted start.world.site →
    (before part : List site.Call) → IsLegal acts start (before ++ part) →
    Begins (of_plan start.plan) n part → Ends (of_plan start.plan) n part →
    (first mirror : Mirrored) → IsReady start.plan n part first →
    HearsAll start.plan (calls (of_plan start.plan) n part) first mirror →
    HoldsWatched start.plan n (after acts start before).world part mirror.held

-- Where the feeds of a watch have no capacity, what it holds equals as a list what a pollRefresh would give.
abbrev pub MirrorsHoldAll : ℕ → Type 0
MirrorsHoldAll n = n < 2 ^ 64 → (start : SiteState) → IsSoundSite start → AreCounted start.world.site →
    (before part : List site.Call) → IsLegal acts start (before ++ part) →
    Begins (of_plan start.plan) n part → Ends (of_plan start.plan) n part →
    (first mirror : Mirrored) → IsReady start.plan n part first →
    HearsAll start.plan (calls (of_plan start.plan) n part) first mirror →
    let end = watches.after (of_plan start.plan) (after acts start before).world part in
    (v : Watch (of_plan start.plan)) → lookup n end.watches ≡ Some v →
    AllByRecursion (λ item. KeepsAllOf start.plan start.world.site item.path item.tracked) v.items →
    Some mirror.held ≡ watched (of_plan start.plan) n end
