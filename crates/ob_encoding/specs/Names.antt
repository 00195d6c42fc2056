-- The words of kinds and of statuses.
use Rattle.std.specs.Prelude.{ℕ, List, codes}
use Rattle.ob_object.specs.declared.kind.Kind.{Kind}
use Rattle.ob_object.specs.declared.kind.Kind.TheVariants as kind
use Rattle.ob_object.specs.declared.status.Status.{Status}
use Rattle.ob_object.specs.declared.status.Status.TheVariants as status

-- the name of an element of the kind
abbrev pub kind_name : Kind → List ℕ
kind_name kind.Obj = codes "obj"
kind_name kind.Bool = codes "bool"
kind_name kind.Int = codes "int"
kind_name kind.Real = codes "real"
kind_name kind.Str = codes "str"
kind_name kind.Enum = codes "enum"
kind_name kind.Uri = codes "uri"
kind_name kind.Abstime = codes "abstime"
kind_name kind.Reltime = codes "reltime"
kind_name kind.Date = codes "date"
kind_name kind.Time = codes "time"
kind_name kind.List = codes "list"
kind_name kind.Op = codes "op"
kind_name kind.Feed = codes "feed"
kind_name kind.Ref = codes "ref"
kind_name kind.Err = codes "err"

abbrev pub status_word : Status → List ℕ
status_word status.Disabled = codes "disabled"
status_word status.Fault = codes "fault"
status_word status.Down = codes "down"
status_word status.UnackedAlarm = codes "unackedAlarm"
status_word status.Alarm = codes "alarm"
status_word status.Unacked = codes "unacked"
status_word status.Overridden = codes "overridden"
status_word status.Ok = codes "ok"
