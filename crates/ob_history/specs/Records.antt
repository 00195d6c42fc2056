-- Records in order, and those that a filter asks for.
use Rattle.std.specs.Prelude.{◌≡◌, ℕ, length, Bool, true, false, not, ◌&&◌, IsTrue, List, [], ◌∷◌, take, filter, Option, Some, None, ◌≤ℤ◌, int_lt}
use Rattle.std.specs.List.{AllWithin}
use Rattle.circular_buffer.specs.Buffer.{last_item}
use Rattle.ob_times.specs.Times.{Instant, instant}
use Rattle.ob_object.specs.declared.kind.Kind.{Kind}
use Rattle.ob_object.specs.declared.head.Slot.{Slot}
use Rattle.ob_object.specs.declared.head.Slot.TheVariants.{Absent, Null, Is}
use Rattle.ob_object.specs.Fits.{fits_value}
use Rattle.ob_object.specs.Kinds.{has_values}
use Rattle.ob_history.specs.declared.records.Record.{Record}
use Rattle.ob_history.specs.declared.records.Filter.{Filter}

-- whether a record is before the start of a query, if it has one
abbrev pub is_before : Option Instant → Record → Bool
is_before None r = false
is_before (Some start) r = int_lt (instant r.time) (instant start)

-- whether a record is after the end of a query, if it has one
abbrev pub is_after : Option Instant → Record → Bool
is_after None r = false
is_after (Some end) r = int_lt (instant end) (instant r.time)

-- the records that a filter passes, in their order, as many as it asks for
abbrev pub passes : Filter → Record → Bool
passes f r = not (is_before f.start r) && not (is_after f.end r)

abbrev pub asked : Filter → List Record → List Record
asked f rs = take f.limit (filter (passes f) rs)

-- a record isn't before another one, if there is one
abbrev pub Follows : Option Record → Record → Type 0
Follows None r = Unit {0}
Follows (Some s) r = instant s.time ≤ℤ instant r.time

-- a record may stand behind others: it isn't before the last one
abbrev pub MayFollow : List Record → Record → Type 0
MayFollow rs r = Follows (last_item rs) r

-- no record is before the one in front of it
abbrev pub IsNotBefore : Record → List Record → Type 0
IsNotBefore r [] = Unit {0}
IsNotBefore r (s ∷ rs) = instant r.time ≤ℤ instant s.time

abbrev pub InOrder : List Record → Type 0
InOrder [] = Unit {0}
InOrder (r ∷ rs) = IsNotBefore r rs × InOrder rs

-- the slot of a record is Null, or a value of its kind
abbrev pub holds_value : Kind → Slot → Bool
holds_value k Absent = false
holds_value k Null = true
holds_value k (Is v) = fits_value k v

abbrev pub is_record : Record → Bool
is_record r = has_values r.kind && holds_value r.kind r.slot

abbrev pub IsRecord : Record → Type 0
IsRecord r = IsTrue (is_record r)

-- the records in front of a place are before an instant
abbrev pub AreBefore : Instant → List Record → ℕ → Type 0
AreBefore start rs place = AllWithin (λ (r : Record). is_before (Some start) r ≡ true) rs 0 place

-- none of the records from a place on is
abbrev pub AreNotBefore : Instant → List Record → ℕ → Type 0
AreNotBefore start rs place = AllWithin (λ (r : Record). is_before (Some start) r ≡ false) rs place (length rs)
