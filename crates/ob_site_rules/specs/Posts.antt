-- Calls of ops. Source: oBIX 1.1, chapters 8 (Operations), 13 (Points), 14 (History) and 15 (Alarming). Of an input only its
-- own parts count, and one that is left out is obix:Nil; both are this profile's own.
use Rattle.std.specs.Prelude.{ℕ, Bool, true, false, cond, not, ◌&&◌, nat_lt, codes, List, [], ◌∷◌, length, Option, Some, None, is_none, unwrap_or, option_map, option_and_then}
use Rattle.ob_values.specs.declared.value.Value.TheVariants as value
use Rattle.ob_object.specs.declared.kind.Kind.{Kind}
use Rattle.ob_object.specs.declared.kind.Kind.TheVariants as kind
use Rattle.ob_object.specs.declared.head.Slot.{Slot}
use Rattle.ob_object.specs.declared.head.Slot.TheVariants.{Is}
use Rattle.ob_object.specs.Kinds.{same_kind}
use Rattle.ob_object.specs.Object.{Object}
use Rattle.ob_history.specs.declared.records.Record.{Record}
use Rattle.ob_history.specs.declared.records.Query.{Query}
use Rattle.ob_history.specs.Filters.{filter_of}
use Rattle.ob_history.specs.Queries.{query_of}
use Rattle.ob_alarms.specs.Changes.{State as Board, alarm_of, on_ack}
use Rattle.ob_alarms.specs.declared.alarm.Alarm.{Alarm}
use Rattle.ob_site_rules.specs.Build.{Text, Path, child}
use Rattle.ob_site_rules.specs.declared.fault.Fault.{Fault}
use Rattle.ob_site_rules.specs.declared.fault.Fault.TheVariants.{NotSupported, OtherShape, TextTooLong, TooManyEntries}
use Rattle.ob_site_rules.specs.Faults.{err, first_fault}
use Rattle.ob_site_rules.specs.declared.plan.Plan.{Plan}
use Rattle.ob_site_rules.specs.State.{Log, State, at, board, with_board}
use Rattle.ob_site_rules.specs.Entries.{records_out, alarms_out, alarm_object}
use Rattle.ob_site_rules.specs.Computed.{nil_object, ack_out}
use Rattle.ob_site_rules.specs.Shown.{shown}
use Rattle.ob_site_rules.specs.declared.resource.Resource.{Resource}
use Rattle.ob_site_rules.specs.declared.resource.Resource.TheVariants.{AckOf, WritePointOf, QueryOf, AlarmQuery}
use Rattle.ob_site_rules.specs.Writes.{is_over, write_by, unless}

-- an input that is left out is Nil
abbrev pub or_nil : Option Object → Object
or_nil input = unwrap_or input nil_object

-- whether an object is an obj
abbrev pub is_obj : Object → Bool
is_obj o = same_kind o.head.kind kind.Obj

-- the child of an obj
abbrev pub child_of_obj : Text → Object → Option Object
child_of_obj n o = cond (is_obj o) (child n o) None

-- WritePointIn: the child `value` is written to the point, whether or not the point is writable
abbrev pub write_point : Plan → State → ℕ → Path → Option Object → State × Object
write_point plan s now p None = (s, err OtherShape)
write_point plan s now p (Some new) = write_by plan s now p (unwrap_or (shown plan s p) new) None new

-- the answer for what an input asks for, where it asks for something
abbrev pub query : {Asked : Type 0} → (Asked → Object) → Option Asked → Object
query out asked = unwrap_or (option_map out asked) (err OtherShape)

-- the records that a log, if there is one, keeps
abbrev pub kept_in : Option Log → List Record
kept_in None = []
kept_in (Some l) = l.kept

-- the kept records of a history
abbrev pub records_of : State → Path → List Record
records_of s h = kept_in (at h s.logs)

-- what a log answers to a query: one that isn't there has no records
abbrev pub log_out : Option Log → Query → Object
log_out None q = records_out q 0 []
log_out (Some l) q = records_out q l.gone l.kept

-- the text of a slot that is a str
abbrev pub text_of : Slot → Option Text
text_of (Is (value.Str t)) = Some t
text_of _ = None

-- the user that an AckAlarmIn names, if it names one
abbrev pub user_in : Object → Option Text
user_in input = option_and_then (λ o. text_of o.head.slot) (child (codes "ackUser") input)

-- whether a text, if there is one, has more than 4,096 bytes
abbrev pub is_long_text : Option Text → Bool
is_long_text None = false
is_long_text (Some t) = nat_lt 4_096 (length t)

-- whether an object, if there is one, is of a kind
abbrev pub is_of_kind : Kind → Option Object → Bool
is_of_kind k None = true
is_of_kind k (Some o) = same_kind o.head.kind k

-- the first acknowledgement of an alarm is an event; a later one changes nothing
abbrev pub acked : Board → ℕ → Option Text → ℕ → Board
acked b number user now = (on_ack b number user now).0

-- whether there is an alarm that nobody has acknowledged
abbrev pub is_unacked : Option Alarm → Bool
is_unacked None = false
is_unacked (Some a) = is_none a.ack

-- what is wrong with an acknowledgement, in order
abbrev pub ack_fault : Plan → State → ℕ → ℕ → Object → Option Fault
ack_fault plan s now number input =
    first_fault (
    (not (is_obj input && is_of_kind kind.Str (child (codes "ackUser") input)), OtherShape)
    ∷ (is_long_text (user_in input), TextTooLong)
    ∷ (is_unacked (alarm_of number s.alarms) && is_over s.logs (acked (board plan s) number (user_in input) now), TooManyEntries)
    ∷ []
    )

-- AckAlarmIn: the alarm is acknowledged, and answered as it then is
abbrev pub acknowledge : Plan → State → ℕ → ℕ → Object → State × Object
acknowledge plan s now number input =
    let b : Board = acked (board plan s) number (user_in input) now in
    unless (ack_fault plan s now number input) s (with_board s b, ack_out (alarm_object b number))

-- A call of an op other than batch, make and those of watches.
abbrev pub call : Plan → State → ℕ → Resource → Option Object → State × Object
call plan s now (AckOf n) input = acknowledge plan s now n (or_nil input)
call plan s now (WritePointOf p) input = write_point plan s now p (child_of_obj (codes "value") (or_nil input))
call plan s now (QueryOf h) input = (s, query (log_out (at h s.logs)) (query_of input))
call plan s now AlarmQuery input = (s, query (alarms_out (board plan s)) (filter_of input))
call plan s now _ input = (s, err NotSupported)
