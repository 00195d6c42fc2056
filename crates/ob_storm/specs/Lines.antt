-- What is printed of a storm.
use Rattle.std.specs.Prelude.{ℕ, codes, decimal, List, ◌++◌}
use Rattle.ob_storm.specs.declared.totals.Totals.{Totals}

-- a name, a space and a number on a line
abbrev pub line : List ℕ → ℕ → List ℕ
line name n = name ++ codes " " ++ decimal n ++ codes "\n"

abbrev pub lines : Totals → List ℕ
lines t =
    line (codes "requests") t.requests
    ++ line (codes "errs") t.errs
    ++ line (codes "objects") t.objects
    ++ line (codes "events") t.events
    ++ line (codes "records") t.records
    ++ line (codes "alarms") t.alarms
