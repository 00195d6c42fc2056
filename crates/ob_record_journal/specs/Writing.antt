-- A record that is written as a whole.
use Rattle.std.specs.Prelude.{◌≡◌, ℕ, ◌<◌, ◌≤◌, List, [], length, Option, Some, None, Result, IsErrOf}
use Rattle.ob_io.specs.Faults.{Rose}
use Rattle.ob_journal.specs.Journal.{Says, at_rest}
use Rattle.ob_journal.specs.declared.device.DeviceFault.{DeviceFault}
use Rattle.ob_journal.specs.declared.device.DeviceFault.TheVariants as devices
use Rattle.ob_record.specs.Blocks.{IsBlock}
use Rattle.ob_record.specs.Runs.{Recorded, Records}
use Rattle.ob_record_journal.specs.declared.writing.WritingFault.{WritingFault}
use Rattle.ob_record_journal.specs.declared.writing.WritingFault.TheVariants as faults
use Rattle.ob_record_journal.specs.Runs.{run_blocks}
use Rattle.ob_record_journal.specs.Saying.{SaysRun}

-- the file at rest that says the run of this record, or no entry where there is none
abbrev pub IsWhole : Option (List ℕ) → List ℕ → Type 0
IsWhole None file = file ≡ at_rest []
IsWhole (Some text) file = (run : Recorded) → Records text run → file ≡ at_rest (run_blocks run.boot run.entries)

-- the file says the run of this record, or no entry where there is none
abbrev pub SaysRecord : List ℕ → Option (List ℕ) → Type 0
SaysRecord file None = Says IsBlock file []
SaysRecord file (Some text) = (run : Recorded) → Records text run → SaysRun file run.boot run.entries

-- the fault that one of a device leads to
abbrev pub fault_of_device : DeviceFault → WritingFault
fault_of_device devices.Failed = faults.Failed
fault_of_device devices.Memory = faults.Memory

-- Why none was written: there are more bytes than a new file has, or else what is told of a device.
abbrev pub Unwritten : List ℕ → WritingFault → Type 0
Unwritten file faults.Taken = 14 < length file
Unwritten file faults.Failed = Unit {0}
Unwritten file faults.Memory = Unit {0}

-- A file that isn't new is left as it was: a read gives the same, and a crash leaves nothing else.
pub record LeavesOld {D : Type 0} (seen : D → List ℕ) (may_leave : D → List ℕ → Type 0) (old new : D) : Type 0 where
  pub seen_is : 14 < length (seen old) → seen new ≡ seen old
  pub crash : 14 < length (seen old) → (c : List ℕ) → may_leave new c → may_leave old c

-- The count of faults hasn't fallen, and the device refused only where it rose.
pub record HasWritingCause {T : Type 0} (before after : ℕ) (result : Result T WritingFault) : Type 0 where
  pub later : before ≤ after
  pub failed : IsErrOf result faults.Failed → Rose before after
