-- Events from a number on, by the moments at which their alarms were raised.
use Rattle.std.specs.Prelude.{◌≡◌, ℕ, Bool, false, not, ◌&&◌, List, drop, nat_le, Option, Some, None, slice_get}
use Rattle.std.specs.List.{list_any}
use Rattle.ob_times.specs.Times.{Instant}
use Rattle.ob_alarms.specs.AlarmObjects.{alarm_object, event_obj}
use Rattle.ob_alarms.specs.AsOf.{as_of}
use Rattle.ob_alarms.specs.Changes.{State, alarm_of}
use Rattle.ob_alarms.specs.Shown.{shown_numbers}
use Rattle.ob_alarms.specs.Within.{is_before, is_after}
use Rattle.ob_alarms.specs.declared.alarm.Alarm.{Alarm}
use Rattle.ob_alarms.specs.declared.alarm.Event.{Event}
use Rattle.ob_alarms.specs.declared.rule.Rule.{Rule}

-- whether an alarm was raised neither before the start nor after the end
abbrev pub is_within : Option Instant → Option Instant → Alarm → Bool
is_within start end a = not (is_before start a) && not (is_after end a)

-- the same of an alarm, if there is one
abbrev pub was_within : Option Instant → Option Instant → Option Alarm → Bool
was_within start end None = false
was_within start end (Some a) = is_within start end a

-- whether an event from a number on, the first ever being 0, is of an alarm that was raised within bounds
abbrev pub any_within : Option Instant → Option Instant → ℕ → State → Bool
any_within start end from s = list_any (λ e. was_within start end (alarm_of e.number s.alarms)) (drop from s.events)

-- whether something happened to an alarm at an event of this number or a later one
abbrev pub happened_since : ℕ → Alarm → Bool
happened_since from a = list_any (nat_le from) (shown_numbers a)

-- An event is of an alarm with a rule, and its object is that of the alarm as it was just after it.
pub record IsKnown (s : State) (event : ℕ) (e : Event) : Type 0 where
  pub alarm : Alarm
  pub there : alarm_of e.number s.alarms ≡ Some alarm
  pub rule : Rule
  pub object : event_obj s event ≡ Some (alarm_object s.root rule e.number (as_of event alarm))

-- so is each event
abbrev pub AllKnown : State → Type 0
AllKnown s = (event : ℕ) (e : Event) → slice_get s.events event ≡ Some e → IsKnown s event e
