-- The laws of firings.
use Rattle.std.specs.Prelude.{◌≡◌, ℕ, ℤ, List}
use Rattle.jiff.specs.Types.{TimeZone}
use Rattle.ob_object.specs.declared.head.Slot.{Slot}
use Rattle.ob_weekly.specs.declared.firing.Firing.{Firing}
use Rattle.ob_weekly.specs.declared.schedule.Entry.{Entry}
use Rattle.ob_weekly.specs.declared.schedule.Schedule.{Schedule}
use Rattle.ob_weekly.specs.Firings.{AreFirings, IsInForce}
use Rattle.ob_weekly.specs.Zones.{FiresAt}

-- on one date an entry fires at one instant, also where the clock shows its time of day twice
abbrev pub OnceADate : Type 0
OnceADate = (zone : TimeZone) (e : Entry) (at other : ℤ) (f : FiresAt zone e at) (g : FiresAt zone e other)
    → f.civil.date ≡ g.civil.date → at ≡ other

-- between two moments there is one list of firings
abbrev pub OneList : Type 0
OneList = (zone : TimeZone) (schedules : List Schedule) (from to : ℕ) (firings other : List Firing)
    → AreFirings zone schedules from to firings → AreFirings zone schedules from to other → firings ≡ other

-- at a moment one slot is in force
abbrev pub OneInForce : Type 0
OneInForce = (zone : TimeZone) (schedules : List Schedule) (schedule moment : ℕ) (slot other : Slot)
    → IsInForce zone schedules schedule moment slot → IsInForce zone schedules schedule moment other → slot ≡ other
