-- The form of a file of schedules, as the parts of a document that offend against it. A part that is there and is wrong offends
-- itself; where one that is needed is missing, the object round it does. Children of other names are passed over.
use Rattle.std.specs.Prelude.{◌≡◌, ℕ, ◌%◌, Bool, true, false, cond, not, ◌&&◌, ◌==◌, nat_le, nat_lt, int_le, ℤ, pos, codes, List, [], ◌∷◌, ◌++◌, length, Option, Some, None, is_some, option_map, option_and_then}
use Rattle.std.specs.List.{list_any}
use Rattle.std.specs.Ordering.{int_eq}
use Rattle.std.specs.Str.{bytes_eq}
use Rattle.jiff_tz.specs.PosixReader.{read_whole}
use Rattle.ob_values.specs.declared.value.Value.TheVariants as value
use Rattle.ob_object.specs.declared.kind.Kind.{Kind}
use Rattle.ob_object.specs.declared.kind.Kind.TheVariants as kind
use Rattle.ob_object.specs.declared.head.Slot.{Slot}
use Rattle.ob_object.specs.declared.head.Slot.TheVariants.{Absent, Null, Is}
use Rattle.ob_object.specs.Default.{default_of}
use Rattle.ob_object.specs.Kinds.{same_kind, has_values}
use Rattle.ob_object.specs.Object.{Object, children}
use Rattle.ob_parts.specs.Numbered.{Part, inside_child, root}
use Rattle.ob_parts.specs.Offences.{IsFirst}
use Rattle.ob_parts.specs.declared.offence.Offence.{Offence}
pub use Rattle.ob_parts.specs.Offences.{unless, needs, said, each}
use Rattle.ob_schedule.specs.PointRules.{PointRules, Text}
use Rattle.ob_schedule.specs.declared.rule.ScheduleRule.{ScheduleRule}
use Rattle.ob_schedule.specs.declared.rule.ScheduleRule.TheVariants as rule

-- ---- what an object holds

abbrev pub str_in : Slot → Option Text
str_in (Is (value.Str t)) = Some t
str_in _ = None

abbrev pub uri_in : Slot → Option Text
uri_in (Is (value.Uri t)) = Some t
uri_in _ = None

abbrev pub int_in : Slot → Option ℤ
int_in (Is (value.Int i)) = Some i
int_in _ = None

-- nanoseconds since the day began
abbrev pub time_in : Slot → Option ℕ
time_in (Is (value.Time t)) = Some t
time_in _ = None

-- what an object of this kind holds; one of another kind holds nothing
abbrev pub if_kind : {A : Type 0} → Kind → Object → Option A → Option A
if_kind k o a = cond (same_kind o.head.kind k) a None

-- the slot that a value of a schedule stands for: where it is absent, the default of its kind
abbrev pub slot_given : Kind → Slot → Slot
slot_given k Absent = default_of k
slot_given k slot = slot

-- ---- the rules

abbrev pub holds : {A : Type 0} → (A → Bool) → Option A → Bool
holds test None = false
holds test (Some a) = test a

abbrev pub zone_text : Object → Option Text
zone_text o = if_kind kind.Str o (str_in o.head.slot)

abbrev pub point_text : Object → Option Text
point_text o = if_kind kind.Uri o (uri_in o.head.slot)

abbrev pub day_value : Object → Option ℤ
day_value o = if_kind kind.Int o (int_in o.head.slot)

abbrev pub time_value : Object → Option ℕ
time_value o = if_kind kind.Time o (time_in o.head.slot)

-- a POSIX rule, as jiff reads it
abbrev pub is_zone : Object → Bool
is_zone o = holds (λ t. is_some (read_whole t)) (zone_text o)

-- a list of so many objects
abbrev pub is_list : ℕ → ℕ → Object → Bool
is_list least most o = same_kind o.head.kind kind.List && (nat_le least (length (children o)) && nat_le (length (children o)) most)

-- Monday is 1 and Sunday 7
abbrev pub is_day : Object → Bool
is_day o = holds (λ i. int_le (pos 1) i && int_le i (pos 7)) (day_value o)

-- a time of day, which is below 24 hours, in whole milliseconds
abbrev pub is_time : Object → Bool
is_time o = holds (λ t. nat_lt t 86_400_000_000_000 && (t % 1_000_000 == 0)) (time_value o)

-- the text of the point of a schedule
abbrev pub point_said : Object → Option Text
point_said s = said (codes "point") point_text s

abbrev pub is_text : Text → Option Text → Bool
is_text t None = false
is_text t (Some other) = bytes_eq other t

-- the point that an object names, with its kind: the path of a writable one, as it stands, that no schedule before has
abbrev pub right_point : PointRules → List Object → Object → Option (Text × Kind)
right_point site before o =
    option_and_then (λ t. cond (list_any (λ s. is_text t (point_said s)) before) None (option_map (λ k. (t, k)) (site.kind_at t))) (point_text o)

abbrev pub is_point : PointRules → List Object → Object → Bool
is_point site before o = is_some (right_point site before o)

-- a slot that may be written to a point: null, or a value that a Put lets through
abbrev pub is_written : PointRules → Text → Slot → Bool
is_written site p Absent = false
is_written site p Null = true
is_written site p (Is v) = site.lets p v

-- the value of an entry: of the kind of the point, and it may be written there; where the point isn't one, of any kind that has values
abbrev pub is_value : PointRules → Option (Text × Kind) → Object → Bool
is_value site None o = has_values o.head.kind
is_value site (Some p) o = same_kind o.head.kind p.1 && is_written site p.0 (slot_given o.head.kind o.head.slot)

-- the day and the time of an entry, if it has both
abbrev pub both : {A B : Type 0} → Option A → Option B → Option (A × B)
both None b = None
both (Some a) None = None
both (Some a) (Some b) = Some (a, b)

abbrev pub week_time : Object → Option (ℤ × ℕ)
week_time e = both (said (codes "day") day_value e) (said (codes "at") time_value e)

abbrev pub is_same_time : Option (ℤ × ℕ) → Option (ℤ × ℕ) → Bool
is_same_time (Some a) (Some b) = int_eq a.0 b.0 && (a.1 == b.1)
is_same_time _ _ = false

-- ---- the parts that offend, each with the rule that it breaks

-- the first rule that a point breaks, which is missing or isn't right
abbrev pub point_rule : PointRules → Option Object → ScheduleRule
point_rule site None = rule.Point
point_rule site (Some o) = text_rule (point_text o)
  where
    text_rule : Option Text → ScheduleRule
    text_rule None = rule.Point
    text_rule (Some t) = cond (is_some (site.kind_at t)) rule.PointTwice rule.NotWritable

-- the first rule that a value breaks, which is missing or isn't right
abbrev pub value_rule : Option (Text × Kind) → Option Object → ScheduleRule
value_rule p None = rule.Value
value_rule None (Some o) = rule.ValueKind
value_rule (Some p) (Some o) = cond (same_kind o.head.kind p.1) rule.ValueLimits rule.ValueKind

-- an object with an int `day`, a time `at` and a `value`; and no entry before it has both its day and its time
abbrev pub entry_offences : PointRules → Option (Text × Kind) → List Object → Part → List (Offence ScheduleRule)
entry_offences site point before e =
    unless (same_kind e.object.head.kind kind.Obj) rule.Kind e
    ++ (needs (codes "day") (λ _. rule.Day) is_day e
    ++ (needs (codes "at") (λ _. rule.At) is_time e
    ++ (needs (codes "value") (value_rule point) (is_value site point) e
    ++ unless (not (list_any (λ other. is_same_time (week_time other) (week_time e.object)) before)) rule.TimeTwice e)))

-- the point of a schedule, with its kind, where it is right
abbrev pub point_of : PointRules → List Object → Object → Option (Text × Kind)
point_of site before s = said (codes "point") (right_point site before) s

-- an object with a uri `point` and a list `entries`
abbrev pub schedule_offences : PointRules → List Object → Part → List (Offence ScheduleRule)
schedule_offences site before s =
    unless (same_kind s.object.head.kind kind.Obj) rule.Kind s
    ++ (needs (codes "point") (point_rule site) (is_point site before) s
    ++ (needs (codes "entries") (λ _. rule.Entries) (is_list 1 100) s
    ++ each (entry_offences site (point_of site before s.object)) [] (inside_child (codes "entries") s)))

-- all parts of a document that offend
abbrev pub offences : PointRules → Object → List (Offence ScheduleRule)
offences site doc =
    unless (same_kind doc.head.kind kind.Obj) rule.Kind (root doc)
    ++ (needs (codes "zone") (λ _. rule.Zone) is_zone (root doc)
    ++ (needs (codes "schedules") (λ _. rule.Schedules) (is_list 0 1_000) (root doc)
    ++ each (schedule_offences site) [] (inside_child (codes "schedules") (root doc))))

-- a document of the form
abbrev pub IsFile : PointRules → Object → Type 0
IsFile site doc = offences site doc ≡ []

-- this part is the first that offends, and this the first rule that it breaks
abbrev pub IsFirstOffence : PointRules → Object → Offence ScheduleRule → Type 0
IsFirstOffence site doc offence = IsFirst (offences site doc) offence
