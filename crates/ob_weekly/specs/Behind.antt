-- What is in force behind firings.
use Rattle.std.specs.Prelude.{ℕ, ◌≤◌, nat_eq, cond, List, [], ◌∷◌, Option, slice_get, option_map, option_and_then, unwrap_or}
use Rattle.jiff.specs.Types.{TimeZone}
use Rattle.ob_object.specs.declared.head.Slot.{Slot}
use Rattle.ob_times.specs.Times.{IsMoment}
use Rattle.ob_weekly.specs.declared.firing.Firing.{Firing}
use Rattle.ob_weekly.specs.declared.schedule.Schedule.{Schedule}
use Rattle.ob_weekly.specs.Firings.{AreFirings, IsInForce}

-- the slot that a firing writes
abbrev pub slot_of : List Schedule → Firing → Option Slot
slot_of schedules f = option_and_then (λ s. option_map (λ e. e.slot) (slice_get s.entries.items f.entry)) (slice_get schedules f.schedule)

-- what firings leave of a slot of the schedule at a place: the slot of the last of them that is of this schedule
abbrev pub left_of : List Schedule → ℕ → List Firing → Slot → Slot
left_of schedules k [] slot = slot
left_of schedules k (f ∷ fs) slot = left_of schedules k fs (cond (nat_eq f.schedule k) (unwrap_or (slot_of schedules f) slot) slot)

-- Behind all that fires after a moment and up to another, in force is what the last firing of a schedule writes, or else what was in
-- force. Nothing else fires between: what lies more than 35 days back has a firing behind it.
abbrev pub InForceBehind : Type 0
InForceBehind = (zone : TimeZone) (schedules : List Schedule) (schedule from to : ℕ) (slot : Slot) (firings : List Firing)
    → from ≤ to → IsMoment to → IsInForce zone schedules schedule from slot → AreFirings zone schedules from to firings
    → IsInForce zone schedules schedule to (left_of schedules schedule firings slot)
