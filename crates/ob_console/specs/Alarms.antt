-- An event of an alarm feed, as a console reads it. Source: oBIX 1.1, chapter 15 (Alarming). That an alarm needs
-- acknowledgement where it has a child `ack` is this profile's own.
use Rattle.std.specs.Prelude.{ℕ, Bool, true, false, cond, not, ◌||◌, codes, List, Option, Some, None, option_map, option_and_then}
use Rattle.ob_times.specs.Times.{Instant}
use Rattle.ob_values.specs.declared.value.Value.TheVariants as value
use Rattle.ob_object.specs.declared.kind.Kind.{Kind}
use Rattle.ob_object.specs.declared.kind.Kind.TheVariants as kind
use Rattle.ob_object.specs.declared.head.Slot.{Slot}
use Rattle.ob_object.specs.declared.head.Slot.TheVariants.{Absent, Null, Is}
use Rattle.ob_object.specs.declared.status.Status.{Status}
use Rattle.ob_object.specs.declared.status.Status.TheVariants as status
use Rattle.ob_object.specs.Object.{Object, children}
use Rattle.ob_object.specs.WellFormed.{named}
use Rattle.ob_watching.specs.WatchOuts.{Text, is_of_kind}

-- what a console shows of an alarm, and the href of its op `ack`, if it has one
pub record Shows : Type 0 where
  pub state : Status
  pub time : Instant
  pub value : Slot
  pub source : Text
  pub ack : Option Text

abbrev pub child : List ℕ → Object → Option Object
child name o = named name (children o)

-- the object, if it is of this kind
abbrev pub if_kind : Kind → Object → Option Object
if_kind k o = cond (is_of_kind k o) (Some o) None

-- the child of a name, if it is of this kind
abbrev pub child_of : Kind → List ℕ → Object → Option Object
child_of k name o = option_and_then (if_kind k) (child name o)

abbrev pub is_given : Slot → Bool
is_given (Is v) = true
is_given _ = false

abbrev pub instant_in : Slot → Option Instant
instant_in (Is (value.Abstime t)) = Some t
instant_in _ = None

-- a slot without a value is null
abbrev pub or_null : Slot → Slot
or_null Absent = Null
or_null s = s

abbrev pub source_of : Object → Option Text
source_of o = option_and_then (λ c. c.head.href) (child_of kind.Ref (codes "source") o)

abbrev pub time_of : Object → Option Instant
time_of o = option_and_then (λ c. instant_in c.head.slot) (child_of kind.Abstime (codes "timestamp") o)

-- whether it is in alarm still: it hasn't become normal again
abbrev pub in_alarm : Object → Option Bool
in_alarm o = option_map (λ c. not (is_given c.head.slot)) (child_of kind.Abstime (codes "normalTimestamp") o)

abbrev pub is_number : Object → Bool
is_number o = is_of_kind kind.Int o || is_of_kind kind.Real o

abbrev pub value_of : Object → Option Slot
value_of o = option_and_then (λ c. cond (is_number c) (Some (or_null c.head.slot)) None) (child (codes "alarmValue") o)

-- the href of the op `ack`, and whether the alarm waits for it
pub record Acking : Type 0 where
  pub ack : Option Text
  pub waits : Bool

abbrev pub needs_none : Acking
needs_none = record { ack = None; waits = false }

-- an op with an href, beside the time of the acknowledgement
abbrev pub acking_by : Object → Object → Option Acking
acking_by o op = option_and_then (λ href. option_map (λ c. record { ack = Some href; waits = not (is_given c.head.slot) }) (child_of kind.Abstime (codes "ackTimestamp") o)) (option_and_then (λ c. c.head.href) (if_kind kind.Op op))

abbrev pub acking : Object → Option Object → Option Acking
acking o None = Some needs_none
acking o (Some op) = acking_by o op

abbrev pub state_of : Bool → Bool → Status
state_of true true = status.UnackedAlarm
state_of true false = status.Alarm
state_of false true = status.Unacked
state_of false false = status.Ok

abbrev pub shows_by : Text → Instant → Bool → Slot → Acking → Shows
shows_by source time alarming v a = record { state = state_of alarming a.waits; time = time; value = v; source = source; ack = a.ack }

-- what is shown of an obj that is an alarm, apart from its href
abbrev pub shows : Object → Option Shows
shows o =
    option_and_then (λ source. option_and_then (λ time. option_and_then (λ alarming. option_and_then (λ v.
    option_map (λ a. shows_by source time alarming v a) (acking o (child (codes "ack") o)))
    (value_of o)) (in_alarm o)) (time_of o)) (source_of o)
