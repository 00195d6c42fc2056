-- What a file says: entries, in order. Each stands behind a line feed, its gate, and counts where the gate is open (10) and
-- the entry is whole. A closed gate (0) stands behind the last entry, on the disk before anything is written behind it. So a
-- file at rest is the record of a run with a 0 in the place of its last line feed. What a crash leaves behind the last entry
-- that counts is a tail; a file that is made says nothing where something else stands there.
use Rattle.std.specs.Prelude.{◌≡◌, ◌≢◌, ◌⊎◌, ℕ, ◌+◌, ◌<◌, ◌≤◌, List, [], ◌∷◌, ◌++◌, length, take, drop, codes}
use Rattle.std.specs.List.{AllByRecursion}
use Rattle.ob_journal.specs.Device.{Only}
use Rattle.ob_journal.specs.declared.device.DeviceFault.{DeviceFault}
use Rattle.ob_journal.specs.declared.device.DeviceFault.TheVariants as device_faults
use Rattle.ob_journal.specs.declared.journal.AppendFault.{AppendFault}
use Rattle.ob_journal.specs.declared.journal.AppendFault.TheVariants as append_faults
use Rattle.ob_journal.specs.declared.opening.Extent.{Extent}
use Rattle.ob_journal.specs.declared.opening.Extent.TheVariants.{Unmade, Entries}

-- ---- files

-- the first line, without its line feed
abbrev pub first_line : List ℕ
first_line = codes "obix-record 1"

-- each entry behind an open gate
abbrev pub blocks : List (List ℕ) → List ℕ
blocks [] = []
blocks (e ∷ es) = 10 ∷ e ++ blocks es

-- the first line and these entries, with no gate behind them
abbrev pub front : List (List ℕ) → List ℕ
front entries = first_line ++ blocks entries

-- and with a closed gate
abbrev pub at_rest : List (List ℕ) → List ℕ
at_rest entries = front entries ++ 0 ∷ []

-- A file of at most 14 bytes, which a file at rest with no entry has, was just made or is being made.
abbrev pub IsUnmade : List ℕ → Type 0
IsUnmade file = length file ≤ 14

-- a file that ends at this gate has no room for an entry whose text, with a closed gate behind it, is this
abbrev pub IsTooLong : ℕ → List ℕ → Type 0
IsTooLong end closed = 1_073_741_824 < end + 1 + length closed

-- why an entry was not appended, where a call of the device was not done
abbrev pub append_fault_of : DeviceFault → AppendFault
append_fault_of device_faults.Failed = append_faults.Failed
append_fault_of device_faults.Memory = append_faults.Memory

-- ---- what they say, where these bytes are an entry

module _ (IsEntry : List ℕ → Type 0) where
  -- no open gate with an entry behind it stands first
  abbrev pub NoBlock : List ℕ → Type 0
  NoBlock end = (e rest : List ℕ) → IsEntry e → end ≡ 10 ∷ e ++ rest → ⊥

  -- where an entry stands first, nothing follows it but a closed gate
  abbrev pub IsLast : List ℕ → Type 0
  IsLast bytes = (e rest : List ℕ) → IsEntry e → bytes ≡ e ++ rest → (rest ≡ []) ⊎ (rest ≡ 0 ∷ [])

  -- What may stand behind the last entry that counts: all that a crash may leave there, and, behind a byte that is no open gate,
  -- bytes that no entry stands first in.
  pub data IsTail (end : List ℕ) : Type 0 where
    -- nothing: the file was cut there, and its gate isn't written yet
    nothing : end ≡ [] → IsTail end
    -- a closed gate, and whatever was being written behind it
    closed_gate : (rest : List ℕ) → end ≡ 0 ∷ rest → IsTail end
    -- an open gate alone, which was being closed
    open_gate : end ≡ 10 ∷ [] → IsTail end
    -- a gate that was being opened, where the entry is on the disk behind it, or is cut off since; or one that was being closed
    broken_gate : (gate : ℕ) (behind : List ℕ) → gate ≢ 10 → end ≡ gate ∷ behind → IsLast behind → IsTail end

  -- the file is the first line and these entries, each behind an open gate, and a tail
  pub record Stands (file : List ℕ) (entries : List (List ℕ)) : Type 0 where
    pub end : List ℕ
    pub valid : AllByRecursion IsEntry entries
    pub split : file ≡ front entries ++ end
    pub tail : IsTail end

  -- what a file says: the entries that stand in it, and none where it isn't made
  abbrev pub Says : List ℕ → List (List ℕ) → Type 0
  Says file entries = Stands file entries ⊎ (IsUnmade file × (entries ≡ []))

  -- these entries stand in the file, with one more or without it
  abbrev pub IsBeforeOrAfter : List (List ℕ) → List ℕ → List ℕ → Type 0
  IsBeforeOrAfter entries e file = Stands file entries ⊎ Stands file (entries ++ e ∷ [])

  -- no file says two lists of entries
  abbrev pub OneMeaning : Type 0
  OneMeaning = (file : List ℕ) (a b : List (List ℕ)) → Says file a → Says file b → a ≡ b

  -- the first n bytes are entries, each behind an open gate
  pub record AreBlocks (bytes : List ℕ) (n : ℕ) : Type 0 where
    pub within : n ≤ length bytes
    pub entries : List (List ℕ)
    pub valid : AllByRecursion IsEntry entries
    pub blocks_are : take n bytes ≡ blocks entries

  -- the first n bytes of the file are the first line and its entries, and a tail follows them
  pub record IsFront (file : List ℕ) (n : ℕ) : Type 0 where
    pub within : n ≤ length file
    pub entries : List (List ℕ)
    pub valid : AllByRecursion IsEntry entries
    pub front_is : take n file ≡ front entries
    pub tail : IsTail (drop n file)

  -- the file isn't made, or its entries end there
  abbrev pub Finds : List ℕ → Extent → Type 0
  Finds file Unmade = IsUnmade file
  Finds file (Entries end) = IsFront file end

  -- where the bytes of a file that is made cease to be a journal's
  pub data IsNoJournalAt (file : List ℕ) (place : ℕ) : Type 0 where
    -- they don't begin with the first line
    at_start : place ≡ 0 → (IsUnmade file → ⊥) → ((rest : List ℕ) → file ≡ first_line ++ rest → ⊥) → IsNoJournalAt file place
    -- the entries end there, and what follows them is neither another entry nor a tail
    in_tail : (entries : List (List ℕ)) (end : List ℕ) → AllByRecursion IsEntry entries → file ≡ front entries ++ end → place ≡ length (front entries) → NoBlock end → (IsTail end → ⊥) → IsNoJournalAt file place

  -- The device's file is these entries at rest, all of it on the disk, and the closed gate stands at this place.
  pub record IsSettled {D : Type 0} (seen : D → List ℕ) (may_leave : D → List ℕ → Type 0) (entries : List (List ℕ)) (device : D) (end : ℕ) : Type 0 where
    pub valid : AllByRecursion IsEntry entries
    pub file : seen device ≡ at_rest entries
    pub end_is : end ≡ length (front entries)
    pub durable : Only (seen device) (may_leave device)

  -- it is some entries at rest
  pub record IsAtRest {D : Type 0} (seen : D → List ℕ) (may_leave : D → List ℕ → Type 0) (device : D) (end : ℕ) : Type 0 where
    pub entries : List (List ℕ)
    pub settled : IsSettled seen may_leave entries device end
