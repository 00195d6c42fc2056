-- What schedules come to: whenever a request acts, each scheduled point holds the value in force.
use Rattle.std.specs.Prelude.{◌≡◌, ◌⊎◌, ℕ, ◌≤◌, ◌<◌, ◌^◌, codes, List, [], ◌∷◌, ◌++◌, Option, Some, slice_get, option_map, Ok}
use Rattle.std.specs.List.{Contains}
use Rattle.jiff.specs.Words.{plain_zone}
use Rattle.ob_machine.specs.declared.call.Answer.{Answer}
use Rattle.ob_machine.specs.declared.call.Answer.TheVariants.{Done, NoMemory}
use Rattle.ob_machine.specs.History.{left_by, after, IsLegal}
use Rattle.ob_object.specs.declared.head.Slot.{Slot}
use Rattle.ob_object.specs.Object.{Object, parts}
use Rattle.ob_object.specs.WellFormed.{IsWellFormed}
use Rattle.ob_site_rules.specs.Opening.{opening}
use Rattle.ob_schedule.specs.Forms.{IsFile}
use Rattle.ob_schedule.specs.Weeks.{Says}
use Rattle.ob_schedule_rules.specs.Merged.{Timed, post, Merges}
use Rattle.ob_schedule_rules.specs.Rules.{rules_of}
use Rattle.ob_site_laws.specs.SiteLaws.{Call, acts}
use Rattle.ob_site_rules.specs.Build.{Path}
use Rattle.ob_site_rules.specs.declared.fault.Fault.TheVariants.{TooManyEntries}
use Rattle.ob_site_rules.specs.Faults.{err}
use Rattle.ob_site_rules.specs.Locating.{locate}
use Rattle.ob_site_rules.specs.Paths.{below}
use Rattle.ob_site_rules.specs.Shown.{node_of, shown}
use Rattle.ob_site_rules.specs.Sites.{SiteState}
use Rattle.ob_site_rules.specs.Writes.{site_contracts}
use Rattle.ob_weekly.specs.declared.schedule.Schedule.{Schedule}
use Rattle.ob_weekly.specs.declared.schedule.Schedules.{Schedules}
use Rattle.ob_weekly.specs.Firings.{IsInForce}

abbrev pub timed : Call → Timed
timed e = (e.request, e.moment)

-- what a call leaves of a state
abbrev pub left : SiteState → Call → SiteState
left st e = left_by acts st e.request e.moment e.answer

-- ---- which calls are the requests'

-- With these calls before it a call is a request's, and no write of a schedule: the calls up to it are `Merged` of those of the
-- requests up to it.
pub record IsRequest (s : Schedules) (boot : ℕ) (own before : List Call) (e : Call) : Type 0 where
  pub earlier : List Call
  pub later : List Call
  pub own_are : own ≡ earlier ++ e ∷ later
  pub merges : Merges timed s boot (earlier ++ e ∷ []) (before ++ e ∷ [])

-- moments don't fall, from one on
abbrev pub RiseFrom : ℕ → List Call → Type 0
RiseFrom moment [] = Unit {0}
RiseFrom moment (e ∷ es) = (moment ≤ e.moment) × RiseFrom e.moment es

-- ---- what is asked of the site and of the calls

-- The target of each write of a schedule leads to the path behind its `http://h`.
abbrev pub AreLocated : SiteState → Schedules → Type 0
AreLocated st s =
    (k : ℕ) (it : Schedule) → slice_get s.list.items k ≡ Some it
    → locate st.plan.base (codes "http://h" ++ below it.point (codes "writePoint")) ≡ Some (below it.point (codes "writePoint"))

-- the own slot of the node at a path
abbrev pub slot_at : SiteState → Path → Option Slot
slot_at st p = option_map (λ o. o.head.slot) (node_of p st.world.site.tree)

-- a call doesn't write the node at a path: its slot is what it was
abbrev pub IsUnwritten : SiteState → Call → Path → Type 0
IsUnwritten st e p = slot_at (left st e) p ≡ slot_at st p

-- a call writes no part of a contract: the contracts of the site are what they were
abbrev pub KeepsContracts : SiteState → Call → Type 0
KeepsContracts st e = site_contracts (left st e).world.site.tree ≡ site_contracts st.world.site.tree

-- memory was wanting, or room: there would have been too many records and events
abbrev pub IsWanting : Answer Object → Type 0
IsWanting answer = (answer ≡ NoMemory) ⊎ (answer ≡ Done (err TooManyEntries))

-- a call asks what a schedule of these writes
abbrev pub IsWrite : Schedules → Call → Type 0
IsWrite s e = (k : ℕ) × (it : Schedule) × (slot : Slot) × (slice_get s.list.items k ≡ Some it) × (e.request ≡ post it slot)

-- No request writes a scheduled point; no call, those of schedules too, writes a part of a contract; and none that asks what a
-- schedule writes wanted memory or room.
pub record IsUndisturbed (s : Schedules) (boot : ℕ) (st : SiteState) (own calls : List Call) : Type 0 where
  pub points : (before later : List Call) (e : Call) → calls ≡ before ++ e ∷ later → IsRequest s boot own before e
      → (k : ℕ) (it : Schedule) → slice_get s.list.items k ≡ Some it → IsUnwritten (after acts st before) e it.point
  pub contracts : (before later : List Call) (e : Call) → calls ≡ before ++ e ∷ later → KeepsContracts (after acts st before) e
  pub done : (e : Call) → Contains calls e → IsWrite s e → IsWanting e.answer → ⊥

-- ---- the laws

-- the slot that is shown at a path
abbrev pub shown_slot : SiteState → Path → Option Slot
shown_slot st p = option_map (λ o. o.head.slot) (shown st.plan st.world.site p)

-- each scheduled point shows the slot that is in force at a moment
abbrev pub HoldInForce : Schedules → SiteState → ℕ → Type 0
HoldInForce s st moment =
    (k : ℕ) (it : Schedule) → slice_get s.list.items k ≡ Some it
    → (slot : Slot) × IsInForce (plain_zone s.zone) s.list.items k moment slot × (shown_slot st it.point ≡ Some slot)

-- Where schedules were read for the state that a document opens, each scheduled point holds the value in force at the moment of each
-- request when it acts.
abbrev pub PointsHoldInForce : Type 0
PointsHoldInForce = (root doc : Object) (boot : ℕ) (st : SiteState) (s : Schedules)
    → IsWellFormed root → parts root < 2 ^ 63 → opening root boot ≡ Ok st
    → IsFile (rules_of st) doc → Says doc s → AreLocated st s
    → (own calls : List Call) → RiseFrom boot own → IsLegal acts st calls → IsUndisturbed s boot st own calls
    → (before later : List Call) (e : Call) → calls ≡ before ++ e ∷ later → IsRequest s boot own before e
    → HoldInForce s (after acts st before) e.moment

-- Of calls that come as `Merged` says each request's is one of `IsRequest`.
abbrev pub RequestsStand : Type 0
RequestsStand = (s : Schedules) (boot : ℕ) (own earlier later calls : List Call) (e : Call)
    → Merges timed s boot own calls → own ≡ earlier ++ e ∷ later
    → (before rest : List Call) × (calls ≡ before ++ e ∷ rest) × IsRequest s boot own before e
