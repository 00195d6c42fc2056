-- What is counted in replies. Source: oBIX 1.1, chapter 12 (WatchOut), chapter 14 (History.count) and chapter 15
-- (AlarmSubject.count).
use Rattle.std.specs.Prelude.{ℕ, ◌-◌, ◌^◌, min, Bool, not, ◌||◌, cond, codes, List, [], map, filter, length, sum, unwrap_or, option_map}
use Rattle.ob_object.specs.declared.kind.Kind.TheVariants as kind
use Rattle.ob_object.specs.Object.{Object, children}
use Rattle.ob_object.specs.WellFormed.{named}
use Rattle.ob_watching.specs.WatchOuts.{is_of_kind, is_dropped, number_in}

-- the entries of a WatchOut: what is in its child `values`; other replies have none
abbrev pub entries : Object → List Object
entries reply = unwrap_or (option_map children (named (codes "values") (children reply))) []

abbrev pub is_err : Object → Bool
is_err o = is_of_kind kind.Err o

-- an entry that is neither a feed nor an err
abbrev pub is_object : Object → Bool
is_object o = not (is_of_kind kind.Feed o || is_of_kind kind.Err o)

-- how many objects are among the entries
abbrev pub objects_in : Object → ℕ
objects_in reply = length (filter is_object (entries reply))

-- how many events an entry has: a feed's children, but what tells how many dropped out
abbrev pub events_of : Object → ℕ
events_of entry = cond (is_of_kind kind.Feed entry) (length (filter (λ o. not (is_dropped o)) (children entry))) 0

-- how many events are in the entries
abbrev pub events_in : Object → ℕ
events_in reply = sum (map events_of (entries reply))

-- a count stands still at the last number of 64 bits
abbrev pub counted : ℕ → ℕ
counted n = min n (2 ^ 64 - 1)

-- what a history or an alarm subject says of how many it has
abbrev pub count_shown : Object → ℕ
count_shown o = unwrap_or (option_map (λ c. number_in c.head.slot) (named (codes "count") (children o))) 0
