-- The logs of histories as they are opened.
use Rattle.std.specs.Prelude.{◌≡◌, ◌⊎◌, ℕ, ◌≤◌, ◌<◌, length, Option, Some, None}
use Rattle.std.specs.List.{AllByRecursion}
use Rattle.ob_times.specs.Times.{Instant}
use Rattle.ob_object.specs.declared.kind.Kind.TheVariants as kind
use Rattle.ob_object.specs.declared.head.Slot.TheVariants.{Null}
use Rattle.ob_history.specs.declared.records.Record.{Record}
use Rattle.ob_history.specs.Records.{InOrder}
use Rattle.ob_site_rules.specs.State.{Log}
use Rattle.ob_opening_laws.specs.Records.{HoldsRecords}

-- a record without a value at a time
abbrev pub stand_in : Instant → Record
stand_in t = record { time = t; kind = kind.Int; slot = Null }

-- the time of a record has fewer nanoseconds than a second
abbrev pub HasNanos : Record → Type 0
HasNanos r = r.time.nanos < 1_000_000_000

abbrev pub HaveNanos : Log → Type 0
HaveNanos l = AllByRecursion HasNanos l.kept

-- No more records are kept than a log may have, and some are gone only where so many are kept.
abbrev pub IsSettledBy : Option ℕ → ℕ → ℕ → Type 0
IsSettledBy None gone len = gone ≡ 0
IsSettledBy (Some c) gone len = ((gone ≡ 0) × (len ≤ c)) ⊎ (len ≡ c)

-- a log as it is opened: it has rolled, and its entries are records in order
pub record CanStand (l : Log) : Type 0 where
  pub settled : IsSettledBy l.capacity l.gone (length l.kept)
  pub in_order : InOrder l.kept
  pub records : HoldsRecords l
