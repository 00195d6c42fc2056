-- Where bytes cease to be the record of a run, and the laws of records.
use Rattle.std.specs.Prelude.{◌≡◌, ◌≢◌, ℕ, ◌+◌, List, [], ◌++◌, length}
use Rattle.std.specs.List.{flat_map, AllByRecursion}
use Rattle.ob_record.specs.declared.fault.RecordFault.{RecordFault}
use Rattle.ob_record.specs.declared.fault.RecordFault.TheVariants.{At, Memory}
use Rattle.ob_record.specs.declared.run.Entry.{Entry}
use Rattle.ob_record.specs.Runs.{Recorded, IsEntry, IsRun, Records, BeginsNone, NoBoot, entry_text, run_text, first_line}

-- The first line or entry that no run has begins at this place: all before it is the record of a run, or the first line, or
-- nothing; and behind it the bytes don't begin as they would have to.
pub data BreaksAt (bytes : List ℕ) (place : ℕ) : Type 0 where
  in_first_line : place ≡ 0 → ((rest : List ℕ) → bytes ≢ first_line ++ rest) → BreaksAt bytes place
  in_second_line : (rest : List ℕ) → place ≡ 14 → bytes ≡ first_line ++ rest → NoBoot rest → BreaksAt bytes place
  in_entry : (run : Recorded) → (rest : List ℕ) → IsRun run → place ≡ length (run_text run) → bytes ≡ run_text run ++ rest → rest ≢ [] → BeginsNone rest
      → BreaksAt bytes place

-- the place is the first that no run has, or memory was wanting
abbrev pub BreaksOff : List ℕ → RecordFault → Type 0
BreaksOff bytes (At place) = BreaksAt bytes place
BreaksOff bytes Memory = Unit {0}

-- entries stand first in the bytes, and then something that is none
pub record BreaksBehind (bytes : List ℕ) (whole place : ℕ) : Type 0 where
  pub entries : List Entry
  pub rest : List ℕ
  pub valid : AllByRecursion IsEntry entries
  pub text : bytes ≡ flat_map entry_text entries ++ rest
  pub some : rest ≢ []
  pub none : BeginsNone rest
  pub place_is : place + length rest ≡ whole

-- the same of the end of a record of so many bytes
abbrev pub Breaks : List ℕ → ℕ → RecordFault → Type 0
Breaks bytes whole (At place) = BreaksBehind bytes whole place
Breaks bytes whole Memory = Unit {0}

-- no bytes are the record of two runs
abbrev pub OneRun : Type 0
OneRun = (bytes : List ℕ) (run other : Recorded) → Records bytes run → Records bytes other → run ≡ other

-- what is the record of a run breaks off nowhere
abbrev pub SpelledIsUnbroken : Type 0
SpelledIsUnbroken = (bytes : List ℕ) (run : Recorded) (place : ℕ) → Records bytes run → BreaksAt bytes place → ⊥

-- bytes break off at one place
abbrev pub OneFault : Type 0
OneFault = (bytes : List ℕ) (place other : ℕ) → BreaksAt bytes place → BreaksAt bytes other → place ≡ other
