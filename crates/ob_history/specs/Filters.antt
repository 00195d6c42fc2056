-- The filter that an object is, if it is one.
use Rattle.std.specs.Prelude.{ℕ, pos, negsuc, List, Option, Some, None, codes}
use Rattle.ob_times.specs.Times.{Instant}
use Rattle.ob_values.specs.declared.value.Value.TheVariants as value
use Rattle.ob_object.specs.declared.kind.Kind.{Kind}
use Rattle.ob_object.specs.declared.kind.Kind.TheVariants as kind
use Rattle.ob_object.specs.declared.head.Slot.{Slot}
use Rattle.ob_object.specs.declared.head.Slot.TheVariants.{Null, Is}
use Rattle.ob_object.specs.Object.{Object, children}
use Rattle.ob_object.specs.WellFormed.{named}
use Rattle.ob_history.specs.declared.records.Filter.{Filter}

-- how many a query without a limit asks for
abbrev pub whole_limit : ℕ
whole_limit = 10_000

-- the filter that sets nothing
abbrev pub everything : Filter
everything = record { limit = whole_limit; start = None; end = None }

-- the limit that a child sets: it is an int, not negative; without a value it sets none
abbrev pub limit_by : Kind → Slot → Option ℕ
limit_by kind.Int (Is (value.Int (pos n))) = Some n
limit_by kind.Int (Is (value.Int (negsuc n))) = None
limit_by kind.Int _ = Some whole_limit
limit_by _ _ = None

abbrev pub limit_of : Option Object → Option ℕ
limit_of None = Some whole_limit
limit_of (Some o) = limit_by o.head.kind o.head.slot

-- the bound that a child sets: it is an abstime; without a value it sets none
abbrev pub bound_by : Kind → Slot → Option (Option Instant)
bound_by kind.Abstime (Is (value.Abstime t)) = Some (Some t)
bound_by kind.Abstime _ = Some None
bound_by _ _ = None

abbrev pub bound_of : Option Object → Option (Option Instant)
bound_of None = Some None
bound_of (Some o) = bound_by o.head.kind o.head.slot

abbrev pub filter_with : Option ℕ → Option (Option Instant) → Option (Option Instant) → Option Filter
filter_with (Some limit) (Some start) (Some end) = Some (record { limit = limit; start = start; end = end })
filter_with _ _ _ = None

-- the filter that children set; those of other names say nothing
abbrev pub filter_in : List Object → Option Filter
filter_in os = filter_with (limit_of (named (codes "limit") os)) (bound_of (named (codes "start") os)) (bound_of (named (codes "end") os))

-- a null obj sets nothing, whatever its children; another obj sets what they say; and what is no obj is no
-- filter
abbrev pub filter_by : Kind → Slot → List Object → Option Filter
filter_by kind.Obj Null os = Some everything
filter_by kind.Obj _ os = filter_in os
filter_by _ _ os = None

-- no object sets nothing
abbrev pub filter_of : Option Object → Option Filter
filter_of None = Some everything
filter_of (Some o) = filter_by o.head.kind o.head.slot (children o)
