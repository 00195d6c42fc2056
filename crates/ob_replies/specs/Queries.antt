-- What queries answer, from the times and the objects that they give.
use Rattle.std.specs.Prelude.{ℕ, Bool, List, [], ◌∷◌, ◌++◌, Option, Some, codes, slice_get}
use Rattle.std.specs.List.{list_all}
use Rattle.circular_buffer.specs.Buffer.{last_item}
use Rattle.ob_times.specs.Times.{Instant}
use Rattle.ob_object.specs.declared.kind.Kind.TheVariants as kind
use Rattle.ob_object.specs.Object.{Object, empty_head}
use Rattle.ob_object.specs.Fits.{fits_slot}
use Rattle.ob_history.specs.declared.records.Record.{Record}
use Rattle.ob_replies.specs.Numbers.{numbers_of}
use Rattle.ob_replies.specs.declared.query.Numbers.{Numbers}
use Rattle.ob_site_rules.specs.Build.{Text, whole, valued, word, number_slot, time_slot}

-- the slot of each record is null, not given, or a value of its kind
abbrev pub values_fit : List Record → Bool
values_fit rs = list_all (λ r. fits_slot r.kind r.slot) rs

-- the list of what a query gives
abbrev pub data_of : Text → List Object → Object
data_of of os = whole (record (empty_head kind.List) { name = Some (codes "data"); of = word of }) os

-- how many objects a query gives, what else is told in numbers, and the first and the last of their times
abbrev pub counts_of : ℕ → Option Numbers → List Instant → List Object
counts_of count numbers times =
    valued kind.Int (codes "count") (number_slot count) ∷ numbers_of numbers
    ++ valued kind.Abstime (codes "start") (time_slot (slice_get times 0))
    ∷ valued kind.Abstime (codes "end") (time_slot (last_item times))
    ∷ []
