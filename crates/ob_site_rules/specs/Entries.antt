-- Records and alarms as objects, and the answers to queries for them. Source: oBIX 1.1, chapters 14 (History) and 15
-- (Alarming).
use Rattle.std.specs.Prelude.{ℕ, ◌+◌, zero, suc, codes, List, [], ◌∷◌, ◌++◌, map, length, take, filter, Option, Some, None, option_map, unwrap_or, slice_get, Bool}
use Rattle.circular_buffer.specs.Buffer.{last_item}
use Rattle.ob_times.specs.Times.{Instant, moment_instant}
use Rattle.ob_object.specs.declared.kind.Kind.TheVariants as kind
use Rattle.ob_object.specs.declared.head.Slot.TheVariants.{Null}
use Rattle.ob_object.specs.Object.{Object, empty_head}
use Rattle.ob_history.specs.declared.records.Record.{Record}
use Rattle.ob_history.specs.declared.records.Filter.{Filter}
use Rattle.ob_history.specs.declared.records.Query.{Query}
use Rattle.ob_history.specs.Records.{passes as passes_record}
use Rattle.ob_history.specs.Queries.{numbered as numbered_records}
use Rattle.ob_alarms.specs.declared.alarm.Alarm.{Alarm}
use Rattle.ob_alarms.specs.AlarmObjects.{alarm_obj, event_obj}
use Rattle.ob_alarms.specs.Changes.{State as Board}
use Rattle.ob_site_rules.specs.Build.{Text, whole, leaf, valued, word, number_slot, time_slot}

-- a HistoryRecord: when, and the value of the point then
abbrev pub record_object : Record → Object
record_object r =
    whole (empty_head kind.Obj)
    (valued kind.Abstime (codes "timestamp") (time_slot (Some r.time)) ∷ valued r.kind (codes "value") r.slot ∷ [])

-- an obj without anything, where a number has no alarm
abbrev pub empty_object : Object
empty_object = leaf (empty_head kind.Obj)

-- the alarm of a number as it is
abbrev pub alarm_object : Board → ℕ → Object
alarm_object b number = unwrap_or (alarm_obj b number) empty_object

-- an alarm event: the alarm as it was just after it
abbrev pub event_object : Board → ℕ → Object
event_object b event = unwrap_or (event_obj b event) empty_object

-- the first so many alarm events, the oldest first
abbrev pub first_events : Board → ℕ → List Object
first_events b zero = []
first_events b (suc n) = first_events b n ++ event_object b n ∷ []

-- all alarm events, the oldest first
abbrev pub event_objects : Board → List Object
event_objects b = first_events b (length b.events)

-- a filter passes a time where it passes a record of it
abbrev pub is_within : Filter → Instant → Bool
is_within f t = passes_record f (record { time = t; kind = kind.Abstime; slot = Null })

-- what a query answers: how many, what else is told in numbers, the first and the last timestamp given, and what is given
abbrev pub query_out : Text → Text → List Object → List Instant → List Object → Object
query_out contract of numbers times os =
    whole (record (empty_head kind.Obj) { is = word contract })
    (valued kind.Int (codes "count") (number_slot (length os)) ∷ numbers
    ++ valued kind.Abstime (codes "start") (time_slot (slice_get times 0))
    ∷ valued kind.Abstime (codes "end") (time_slot (last_item times))
    ∷ whole (record (empty_head kind.List) { name = Some (codes "data"); of = word of }) os
    ∷ [])

-- how many records rolled off, and the number of the first one given, if one is given
abbrev pub number_children : ℕ → Option ℕ → List Object
number_children gone None = valued kind.Int (codes "gone") (number_slot gone) ∷ []
number_children gone (Some first) =
    valued kind.Int (codes "gone") (number_slot gone) ∷ valued kind.Int (codes "first") (number_slot first) ∷ []

-- they are told to a query alone that asks from a number on
abbrev pub numbers_told : Option ℕ → ℕ → Option ℕ → List Object
numbers_told None gone first = []
numbers_told (Some from) gone first = number_children gone first

-- HistoryQueryOut: the first of the kept records that pass, as many as the query asks for
abbrev pub records_out : Query → ℕ → List Record → Object
records_out q gone kept =
    let given : List (ℕ × Record) = numbered_records q gone kept in
    query_out (codes "obix:HistoryQueryOut") (codes "obix:HistoryRecord") (numbers_told q.from gone (option_map (λ e. e.0) (slice_get given 0))) (map (λ e. e.1.time) given) (map (λ e. record_object e.1) given)

-- the timestamp of an alarm: when it was raised
abbrev pub raised_at : Alarm → Instant
raised_at a = moment_instant a.raised.at

-- the alarms, each with its number
abbrev pub numbered : ℕ → List Alarm → List (ℕ × Alarm)
numbered n [] = []
numbered n (a ∷ alarms) = (n, a) ∷ numbered (n + 1) alarms

-- the first alarms whose timestamp passes, as many as the filter asks for
abbrev pub asked_alarms : Filter → List Alarm → List (ℕ × Alarm)
asked_alarms f alarms = take f.limit (filter (λ e. is_within f (raised_at e.1)) (numbered 1 alarms))

-- AlarmQueryOut
abbrev pub alarms_out : Board → Filter → Object
alarms_out b f =
    query_out (codes "obix:AlarmQueryOut") (codes "obix:Alarm") [] (map (λ e. raised_at e.1) (asked_alarms f b.alarms)) (map (λ e. alarm_object b e.0) (asked_alarms f b.alarms))
