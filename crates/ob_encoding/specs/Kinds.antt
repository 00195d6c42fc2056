-- The kinds by their names.
use Rattle.std.specs.Prelude.{ℕ, Bool, List, Option, Some, None, if◌then◌else◌, codes, nat_eq}
use Rattle.std.specs.Cmp.Lexicographic.{pointwise}
use Rattle.ob_object.specs.declared.kind.Kind.{Kind}
use Rattle.ob_object.specs.declared.kind.Kind.TheVariants as kind

abbrev pub same : List ℕ → List ℕ → Bool
same = pointwise nat_eq

abbrev pub plain_kind : List ℕ → Option Kind
plain_kind n =
    if same n (codes "obj") then Some kind.Obj
    else if same n (codes "bool") then Some kind.Bool
    else if same n (codes "int") then Some kind.Int
    else if same n (codes "real") then Some kind.Real
    else if same n (codes "str") then Some kind.Str
    else if same n (codes "enum") then Some kind.Enum
    else if same n (codes "uri") then Some kind.Uri
    else None

abbrev pub timed_kind : List ℕ → Option Kind
timed_kind n =
    if same n (codes "abstime") then Some kind.Abstime
    else if same n (codes "reltime") then Some kind.Reltime
    else if same n (codes "date") then Some kind.Date
    else if same n (codes "time") then Some kind.Time
    else if same n (codes "list") then Some kind.List
    else if same n (codes "op") then Some kind.Op
    else if same n (codes "feed") then Some kind.Feed
    else if same n (codes "ref") then Some kind.Ref
    else if same n (codes "err") then Some kind.Err
    else None

-- the first, or else the second
abbrev pub or_else : {A : Type 0} → Option A → Option A → Option A
or_else None r = r
or_else (Some x) r = Some x

unfoldable pub kind_of : List ℕ → Option Kind
kind_of n = or_else (plain_kind n) (timed_kind n)
