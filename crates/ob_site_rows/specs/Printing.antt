-- Objects as text, for the answers of the worked rows: texts without escapes, whole reals, and times without fractions.
use Rattle.std.specs.Prelude.{ℕ, ℤ, pos, negsuc, ◌+◌, ◌-◌, ◌*◌, ◌/◌, ◌%◌, ◌^◌, Bool, true, false, cond, nat_lt, nat_le, codes, decimal, List, [], ◌∷◌, ◌++◌, Option, Some, None}
use Rattle.ob_values.specs.declared.value.Value.{Value}
use Rattle.ob_values.specs.declared.value.Value.TheVariants.{Bool as IsBool, Int, Real, Str, Enum, Uri, Abstime, Reltime, Date, Time}
use Rattle.ob_object.specs.declared.kind.Kind.{Kind}
use Rattle.ob_object.specs.declared.kind.Kind.TheVariants as kind
use Rattle.ob_object.specs.declared.head.Slot.{Slot}
use Rattle.ob_object.specs.declared.head.Slot.TheVariants.{Absent, Null, Is}
use Rattle.ob_object.specs.declared.status.Status.{Status}
use Rattle.ob_object.specs.declared.status.Status.TheVariants as status
use Rattle.ob_object.specs.declared.head.Head.{Head}
use Rattle.ob_object.specs.Object.{Objects, none, node, Object}
use Rattle.ob_site_rules.specs.Build.{Text}

abbrev whole_number : ℤ → Text
whole_number (pos n) = decimal n
whole_number (negsuc n) = 45 ∷ decimal (n + 1)

abbrev whole_real : ℤ → Text
whole_real (pos n) = decimal (n / 10 ^ 18)
whole_real (negsuc n) = 45 ∷ decimal ((n + 1) / 10 ^ 18)

abbrev two : ℕ → Text
two n = (48 + n / 10) ∷ (48 + n % 10) ∷ []

-- the calendar's year, month and day of a day counted from 1970-01-01, by years that begin in March
abbrev date_of : ℕ → Text
date_of days =
    let z : ℕ = days + 719468 in
    let era : ℕ = z / 146097 in
    let doe : ℕ = z - era * 146097 in
    let yoe : ℕ = (doe - doe / 1460 + doe / 36524 - doe / 146096) / 365 in
    let doy : ℕ = doe - (365 * yoe + yoe / 4 - yoe / 100) in
    let mp : ℕ = (5 * doy + 2) / 153 in
    let day : ℕ = doy - (153 * mp + 2) / 5 + 1 in
    let month : ℕ = cond (nat_lt mp 10) (mp + 3) (mp - 9) in
    let year : ℕ = yoe + era * 400 + cond (nat_le month 2) 1 0 in
    decimal year ++ 45 ∷ two month ++ 45 ∷ two day

abbrev time_text : ℤ → Text
time_text (negsuc n) = []
time_text (pos s) =
    date_of (s / 86400) ++ 84 ∷ two (s % 86400 / 3600) ++ 58 ∷ two (s % 3600 / 60) ++ 58 ∷ two (s % 60) ++ 90 ∷ []

abbrev truth : Bool → Text
truth true = codes "true"
truth false = codes "false"

abbrev seconds : ℤ → Text
seconds (pos n) = decimal (n / 10 ^ 9)
seconds (negsuc n) = []

abbrev value_text : Value → Text
value_text (IsBool b) = truth b
value_text (Int i) = whole_number i
value_text (Real r) = whole_real r
value_text (Str t) = t
value_text (Enum t) = t
value_text (Uri t) = t
value_text (Abstime a) = time_text a.seconds
value_text (Reltime r) = codes "PT" ++ seconds r.nanos ++ codes "S"
value_text (Date d) = []
value_text (Time t) = []

abbrev kind_text : Kind → Text
kind_text kind.Obj = codes "obj"
kind_text kind.Bool = codes "bool"
kind_text kind.Int = codes "int"
kind_text kind.Real = codes "real"
kind_text kind.Str = codes "str"
kind_text kind.Enum = codes "enum"
kind_text kind.Uri = codes "uri"
kind_text kind.Abstime = codes "abstime"
kind_text kind.Reltime = codes "reltime"
kind_text kind.Date = codes "date"
kind_text kind.Time = codes "time"
kind_text kind.List = codes "list"
kind_text kind.Op = codes "op"
kind_text kind.Feed = codes "feed"
kind_text kind.Ref = codes "ref"
kind_text kind.Err = codes "err"

abbrev status_text : Status → Text
status_text status.Disabled = codes "disabled"
status_text status.Fault = codes "fault"
status_text status.Down = codes "down"
status_text status.UnackedAlarm = codes "unackedAlarm"
status_text status.Alarm = codes "alarm"
status_text status.Unacked = codes "unacked"
status_text status.Overridden = codes "overridden"
status_text status.Ok = codes "ok"

abbrev attribute : {A : Type 0} → Text → (A → Text) → Option A → Text
attribute name print None = []
attribute name print (Some a) = 32 ∷ name ++ 61 ∷ 34 ∷ print a ++ 34 ∷ []

abbrev joined : List Text → Text
joined [] = []
joined (w ∷ []) = w
joined (w ∷ v ∷ ws) = w ++ 32 ∷ joined (v ∷ ws)

abbrev slot_text : Slot → Text
slot_text Absent = []
slot_text Null = codes " null=\"true\""
slot_text (Is v) = attribute (codes "val") value_text (Some v)

abbrev attributes : Head → Text
attributes h =
    attribute (codes "name") (λ t. t) h.name ++ attribute (codes "href") (λ t. t) h.href
    ++ attribute (codes "is") joined h.is ++ slot_text h.slot
    ++ attribute (codes "of") joined h.of ++ attribute (codes "in") joined h.input ++ attribute (codes "out") joined h.output
    ++ attribute (codes "display") (λ t. t) h.facets.display ++ attribute (codes "displayName") (λ t. t) h.facets.display_name
    ++ attribute (codes "icon") (λ t. t) h.facets.icon
    ++ attribute (codes "max") value_text h.facets.max ++ attribute (codes "min") value_text h.facets.min
    ++ attribute (codes "precision") whole_number h.facets.precision ++ attribute (codes "range") (λ t. t) h.facets.range
    ++ attribute (codes "status") status_text h.facets.status ++ attribute (codes "tz") (λ t. t) h.facets.tz
    ++ attribute (codes "unit") (λ t. t) h.facets.unit ++ attribute (codes "writable") truth h.facets.writable

abbrev element : Head → Text → Text
element h [] = 60 ∷ kind_text h.kind ++ attributes h ++ codes "/>"
element h (c ∷ cs) = 60 ∷ kind_text h.kind ++ attributes h ++ 62 ∷ (c ∷ cs) ++ codes "</" ++ kind_text h.kind ++ codes ">"

abbrev row_text : Objects → Text
row_text none = []
row_text (node h inner rest) = element h (row_text inner) ++ row_text rest

abbrev pub xml : Object → Text
xml o = row_text (node o.head o.inner none)
