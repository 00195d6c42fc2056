-- A log of records, that may keep the newest ones alone.
use Rattle.std.specs.Prelude.{ℕ, ◌+◌, ◌-◌, ◌^◌, ◌<◌, List, [], ◌∷◌, ◌++◌, length, take, drop, Option, Some, None, All}
use Rattle.circular_buffer.specs.Buffer.{Buffer, keep_last}
use Rattle.ob_history.specs.Records.{InOrder, IsRecord}
use Rattle.ob_history.specs.declared.records.Record.{Record}

-- how many records are kept, if not all; how many rolled off; the kept ones, oldest first; and how many
-- more there is room for
pub record History : Type 0 where
  pub capacity : Option ℕ
  pub gone : ℕ
  pub kept : List Record
  pub spare : ℕ

-- a log that has had no records, and has no room for any yet
abbrev pub empty_log : Option ℕ → History
empty_log capacity = record { capacity = capacity; gone = 0; kept = []; spare = 0 }

-- the records ever pushed can be counted, the kept ones are in order, and each is one
pub record IsHistory (gone : ℕ) (kept : List Record) : Type 0 where
  pub counted : gone + length kept < 2 ^ 63
  pub in_order : InOrder kept
  pub records : All IsRecord kept

-- what a ring keeps, where there is one
abbrev pub kept_in : Option (Buffer Record) → List Record
kept_in None = []
kept_in (Some ring) = ring.items

abbrev pub spare_in : Option (Buffer Record) → ℕ
spare_in None = 0
spare_in (Some ring) = ring.capacity - length ring.items

-- the log with one more record, for which there is room
abbrev pub pushed : History → Record → History
pushed log r = record log { kept = log.kept ++ r ∷ []; spare = log.spare - 1 }

-- the log with no more than the first so many of its kept records
abbrev pub cut_to : ℕ → History → History
cut_to len log = record log { kept = take len log.kept; spare = log.spare + (length log.kept - len) }

-- the log with no more than the last so many of its records, the others counted
abbrev pub rolled_to : ℕ → History → History
rolled_to limit log = record log {
  gone = log.gone + (length log.kept - limit);
  kept = keep_last limit log.kept;
  spare = log.spare + (length log.kept - limit);
}

-- the log once it has rolled
abbrev pub settled : Option ℕ → History → History
settled None log = log
settled (Some capacity) log = rolled_to capacity log

-- the kept records from an event number on, the first one ever being 0
abbrev pub kept_since : ℕ → History → List Record
kept_since number log = drop (number - log.gone) log.kept
