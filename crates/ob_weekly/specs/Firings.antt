-- The firings of schedules, and the value in force.
use Rattle.std.specs.Prelude.{◌≡◌, ◌↔◌, ◌⊎◌, ℕ, ◌+◌, ◌≤◌, List, map, pos, ◌+ℤ◌, ◌<ℤ◌, ◌≤ℤ◌, unsigned_abs, Some, slice_get, false}
use Rattle.std.specs.declared.cmp.Ordering.{Ordering}
use Rattle.std.specs.List.{Contains}
use Rattle.std.specs.List.Sorted.{IsStrictlySortedBy}
use Rattle.std.specs.Ordering.{nat_cmp, int_cmp, ordering_then, is_gt}
use Rattle.jiff.specs.Types.{TimeZone}
use Rattle.ob_object.specs.declared.head.Slot.{Slot}
use Rattle.ob_weekly.specs.declared.due.Due.{Due}
use Rattle.ob_weekly.specs.declared.firing.Firing.{Firing}
use Rattle.ob_weekly.specs.declared.schedule.Entry.{Entry}
use Rattle.ob_weekly.specs.declared.schedule.Schedule.{Schedule}
use Rattle.ob_weekly.specs.Zones.{FiresAt}

-- An entry fires: at this instant, in milliseconds from 1970 on; it is the entry at this place of the schedule at this place, and
-- this is its day of the week and its time of day.
pub record IsDue (zone : TimeZone) (schedules : List Schedule) (d : Due) : Type 0 where
  pub schedule : Schedule
  pub entry : Entry
  pub schedule_is : slice_get schedules d.schedule ≡ Some schedule
  pub entry_is : slice_get schedule.entries.items d.entry ≡ Some entry
  pub day : d.day ≡ entry.day
  pub time : d.at_ms ≡ entry.at_ms
  pub fires : FiresAt zone entry d.at

-- the order of firings: by instant, then by the place of the schedule, then by day and time; no two entries of a schedule that is
-- read have one day and time
abbrev pub due_cmp : Due → Due → Ordering
due_cmp a b =
    ordering_then (int_cmp a.at b.at)
    (ordering_then (nat_cmp a.schedule b.schedule)
    (ordering_then (nat_cmp a.day b.day)
    (ordering_then (nat_cmp a.at_ms b.at_ms) (nat_cmp a.entry b.entry))))

-- a firing tells the instant, the schedule and the entry
abbrev pub firing_of : Due → Firing
firing_of d = record { at = unsigned_abs d.at; schedule = d.schedule; entry = d.entry }

-- The firings after a moment and up to another, in order; what fired more than 3,024,000,000 ms (35 days) before the second is
-- left out.
pub record AreFirings (zone : TimeZone) (schedules : List Schedule) (from to : ℕ) (firings : List Firing) : Type 0 where
  pub dues : List Due
  pub order : IsStrictlySortedBy due_cmp dues
  pub exact : (d : Due) → Contains dues d
      ↔ (IsDue zone schedules d × (pos from <ℤ d.at) × (d.at ≤ℤ pos to) × (pos to ≤ℤ (d.at +ℤ pos 3_024_000_000)))
  pub firings_are : firings ≡ map firing_of dues

-- The slot in force in a schedule at a moment is that of its last firing at or before it.
pub record IsInForce (zone : TimeZone) (schedules : List Schedule) (schedule moment : ℕ) (slot : Slot) : Type 0 where
  pub last : Due
  pub is : IsDue zone schedules last
  pub of : last.schedule ≡ schedule
  pub past : last.at ≤ℤ pos moment
  pub none_later : (d : Due) → IsDue zone schedules d → d.schedule ≡ schedule → d.at ≤ℤ pos moment → is_gt (due_cmp d last) ≡ false
  pub slot_is : slot ≡ is.entry.slot

-- nothing fires after a moment and up to another
abbrev pub IsQuiet : TimeZone → List Schedule → ℕ → ℕ → Type 0
IsQuiet zone schedules from to = (d : Due) → IsDue zone schedules d → pos from <ℤ d.at → d.at ≤ℤ pos to → ⊥

-- something fires in the millisecond behind a moment
abbrev pub HasNext : TimeZone → List Schedule → ℕ → Type 0
HasNext zone schedules until = (d : Due) × IsDue zone schedules d × (d.at ≡ pos until +ℤ pos 1)

-- Quiet until just before the next firing after a moment, or for 8 days, or up to the end of time.
pub record IsQuietUntil (zone : TimeZone) (schedules : List Schedule) (from until : ℕ) : Type 0 where
  pub quiet : IsQuiet zone schedules from until
  pub next : HasNext zone schedules until ⊎ ((from + 691_200_000 ≤ until) ⊎ (until ≡ 253_402_300_799_999))
