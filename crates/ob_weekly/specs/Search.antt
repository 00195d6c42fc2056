-- How firings are looked for; no public clause stands on this.
use Rattle.std.specs.Prelude.{◌≡◌, ◌↔◌, ◌⊎◌, ℕ, ◌+◌, ◌*◌, ◌<◌, List, ℤ, pos, ◌+ℤ◌, ◌*ℤ◌, ◌<ℤ◌, ◌≤ℤ◌, Some, slice_get}
use Rattle.std.specs.List.{Contains}
use Rattle.std.specs.List.Sorted.{IsStrictlySortedBy}
use Rattle.jiff.specs.Types.{DateTime, TimeZone}
use Rattle.jiff.specs.Words.{epoch_day, weekday_of, time_nanos, picked_instant}
use Rattle.ob_weekly.specs.declared.due.Due.{Due}
use Rattle.ob_weekly.specs.declared.due.Place.{Place}
use Rattle.ob_weekly.specs.declared.schedule.Entry.{Entry}
use Rattle.ob_weekly.specs.declared.schedule.Schedule.{Schedule}
use Rattle.ob_weekly.specs.Firings.{IsDue, due_cmp}
use Rattle.ob_weekly.specs.Zones.{FiresAt, last_day}

-- all of these are added, and nothing else
abbrev pub Adds : (Due → Type 0) → List Due → List Due → Type 0
Adds P old new = (d : Due) → Contains new d ↔ (Contains old d ⊎ P d)

-- it is after one instant and up to another
abbrev pub IsAfterUpTo : ℤ → ℤ → Due → Type 0
IsAfterUpTo low to d = (low <ℤ d.at) × (d.at ≤ℤ to)

-- the entry fires at this instant on the date of this number
pub record FiresOn (zone : TimeZone) (e : Entry) (day at : ℤ) : Type 0 where
  pub civil : DateTime
  pub date : epoch_day civil.date ≡ day
  pub weekday : weekday_of civil.date + 1 ≡ e.day
  pub time : time_nanos civil.time ≡ e.at_ms * 1_000_000
  pub instant : at *ℤ pos 1_000_000 ≡ picked_instant zone civil

-- the entry at this place fires on the date of this number
pub record IsDueOn (zone : TimeZone) (place : Place) (e : Entry) (low to day : ℤ) (d : Due) : Type 0 where
  pub schedule : d.schedule ≡ place.schedule
  pub entry : d.entry ≡ place.entry
  pub day_is : d.day ≡ e.day
  pub time : d.at_ms ≡ e.at_ms
  pub fires : FiresOn zone e day d.at
  pub last : day ≤ℤ last_day
  pub within : IsAfterUpTo low to d

-- all are there that were, and of the days from the first up to this one those with P
abbrev pub UpToDay : (ℤ → Due → Type 0) → List Due → ℤ → ℤ → List Due → Type 0
UpToDay P old first day new = (d : Due) → Contains new d ↔ (Contains old d ⊎ ((n : ℤ) × (first ≤ℤ n) × (n <ℤ day) × P n d))

-- the same of the places below this one
abbrev pub UpToPlace : (ℕ → Due → Type 0) → List Due → ℕ → List Due → Type 0
UpToPlace P old place new = (d : Due) → Contains new d ↔ (Contains old d ⊎ ((k : ℕ) × (k < place) × P k d))

-- the entry at this place fires
pub record IsDueOf (zone : TimeZone) (place : Place) (e : Entry) (low to : ℤ) (d : Due) : Type 0 where
  pub schedule : d.schedule ≡ place.schedule
  pub entry : d.entry ≡ place.entry
  pub day : d.day ≡ e.day
  pub time : d.at_ms ≡ e.at_ms
  pub fires : FiresAt zone e d.at
  pub within : IsAfterUpTo low to d

-- one of the entries of the schedule at this place fires
pub record IsDueIn (zone : TimeZone) (schedule : ℕ) (entries : List Entry) (low to : ℤ) (d : Due) : Type 0 where
  pub it : Entry
  pub it_is : slice_get entries d.entry ≡ Some it
  pub due : IsDueOf zone (record { schedule = schedule; entry = d.entry }) it low to d

-- the entry at a place of the schedule fires
abbrev pub IsDueAt : TimeZone → ℕ → List Entry → ℤ → ℤ → ℕ → Due → Type 0
IsDueAt zone schedule entries low to k d =
    (e : Entry) × (slice_get entries k ≡ Some e) × IsDueOf zone (record { schedule = schedule; entry = k }) e low to d

-- an entry of the schedule at a place fires
abbrev pub IsDueInAt : TimeZone → List Schedule → ℤ → ℤ → ℕ → Due → Type 0
IsDueInAt zone schedules low to k d =
    (s : Schedule) × (slice_get schedules k ≡ Some s) × IsDueIn zone k s.entries.items low to d

-- one of the schedules does
abbrev pub IsDueAmong : TimeZone → List Schedule → ℤ → ℤ → Due → Type 0
IsDueAmong zone schedules low to d = IsDue zone schedules d × IsAfterUpTo low to d

-- the same in order, each once
pub record IsOrderOf (old new : List Due) : Type 0 where
  pub order : IsStrictlySortedBy due_cmp new
  pub same : (d : Due) → Contains new d ↔ Contains old d

-- in order, all these and nothing else
pub record AreAll (P : Due → Type 0) (dues : List Due) : Type 0 where
  pub order : IsStrictlySortedBy due_cmp dues
  pub exact : (d : Due) → Contains dues d ↔ P d

-- in order, all that is due after the first instant and up to the second, and nothing else
abbrev pub AreDue : TimeZone → List Schedule → ℤ → ℤ → List Due → Type 0
AreDue zone schedules low to dues = AreAll (IsDueAmong zone schedules low to) dues

-- a moment is just before the first of what is due
abbrev pub IsJustBefore : List Due → ℕ → Type 0
IsJustBefore dues moment =
    (first : Due) × Contains dues first × (first.at ≡ pos moment +ℤ pos 1)
    × (IsStrictlySortedBy due_cmp dues → (d : Due) → Contains dues d → first.at ≤ℤ d.at)
