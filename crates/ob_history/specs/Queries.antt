-- What a query of a history asks for: what a filter says, and from which number of a record on.
use Rattle.std.specs.Prelude.{ℕ, nat_lt, pos, Bool, false, not, ◌&&◌, codes, List, take, filter, Option, Some, None}
use Rattle.std.specs.List.{enumerate_from}
use Rattle.ob_values.specs.declared.value.Value.TheVariants as value
use Rattle.ob_object.specs.declared.kind.Kind.{Kind}
use Rattle.ob_object.specs.declared.kind.Kind.TheVariants as kind
use Rattle.ob_object.specs.declared.head.Slot.{Slot}
use Rattle.ob_object.specs.declared.head.Slot.TheVariants.{Null, Is}
use Rattle.ob_object.specs.Object.{Object, children}
use Rattle.ob_object.specs.WellFormed.{named}
use Rattle.ob_history.specs.Filters.{filter_of}
use Rattle.ob_history.specs.Records.{passes}
use Rattle.ob_history.specs.declared.records.Record.{Record}
use Rattle.ob_history.specs.declared.records.Filter.{Filter}
use Rattle.ob_history.specs.declared.records.Query.{Query}

-- whether a number is below the one from which on a query asks, if it gives one
abbrev pub is_below : Option ℕ → ℕ → Bool
is_below None number = false
is_below (Some from) number = nat_lt number from

-- a query passes a record of a number: the number isn't below its own, and its filter passes the record
abbrev pub passes_numbered : Query → ℕ × Record → Bool
passes_numbered q e = not (is_below q.from e.0) && passes q.filter e.1

-- the kept records that a query passes, each with its number, as many as it asks for: as many as are gone have the
-- numbers below those of the kept ones
abbrev pub numbered : Query → ℕ → List Record → List (ℕ × Record)
numbered q gone kept = take q.filter.limit (filter (passes_numbered q) (enumerate_from gone kept))

-- the number that a child gives: it is an int with a value that isn't negative
abbrev pub number_by : Kind → Slot → Option (Option ℕ)
number_by kind.Int (Is (value.Int (pos n))) = Some (Some n)
number_by _ _ = None

abbrev pub number_of : Option Object → Option (Option ℕ)
number_of None = Some None
number_of (Some o) = number_by o.head.kind o.head.slot

-- a null obj gives no number, whatever its children
abbrev pub number_under : Slot → List Object → Option (Option ℕ)
number_under Null os = Some None
number_under _ os = number_of (named (codes "from") os)

abbrev pub number_in : Option Object → Option (Option ℕ)
number_in None = Some None
number_in (Some o) = number_under o.head.slot (children o)

abbrev pub query_with : Option Filter → Option (Option ℕ) → Option Query
query_with (Some f) (Some from) = Some (record { filter = f; from = from })
query_with _ _ = None

-- the query that an object is: it is a filter, and its own child `from`, if it has one, gives a number
abbrev pub query_of : Option Object → Option Query
query_of input = query_with (filter_of input) (number_in input)
