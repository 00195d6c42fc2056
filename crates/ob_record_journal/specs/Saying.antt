-- What a file says of a run: as a journal its entries are the run's blocks.
use Rattle.std.specs.Prelude.{◌≢◌, ℕ, ◌≤◌, List, [], ◌∷◌, ◌++◌, Option, Some, None, Result, IsErrOf}
use Rattle.ob_io.specs.Faults.{Rose}
use Rattle.ob_journal.specs.Journal.{front, Says, IsNoJournalAt}
use Rattle.ob_record.specs.Blocks.{IsBlock}
use Rattle.ob_record.specs.Broken.{BreaksAt}
use Rattle.ob_record.specs.Runs.{Recorded, Records, IsRun}
use Rattle.ob_record.specs.declared.run.Entry.{Entry}
use Rattle.ob_record_journal.specs.declared.saying.SayingFault.{SayingFault}
use Rattle.ob_record_journal.specs.declared.saying.SayingFault.TheVariants as faults
use Rattle.ob_record_journal.specs.Runs.{run_blocks}

-- The file says these entries of a run that begins at this moment. A file that says none says none of each moment.
pub record SaysRun (file : List ℕ) (boot : ℕ) (entries : List Entry) : Type 0 where
  pub valid : IsRun (record { boot = boot; entries = entries })
  pub blocks : Says IsBlock file (run_blocks boot entries)

-- it says no run
abbrev pub SaysNoRun : List ℕ → Type 0
SaysNoRun file = (boot : ℕ) (entries : List Entry) → SaysRun file boot entries → ⊥

-- the record of the run that the file says, or none where it says no entry
abbrev pub IsSaid : List ℕ → Option (List ℕ) → Type 0
IsSaid file None = Says IsBlock file []
IsSaid file (Some text) = (run : Recorded) × Records text run × SaysRun file run.boot run.entries × (run.entries ≢ [])

-- why no run was read of a file
abbrev pub Unsaid : List ℕ → SayingFault → Type 0
Unsaid file (faults.Record place) = SaysNoRun file
Unsaid file faults.Failed = Unit {0}
Unsaid file faults.Memory = Unit {0}

-- why none was read of its bytes
abbrev pub UnsaidBy : List ℕ → SayingFault → Type 0
UnsaidBy file (faults.Record place) = SaysNoRun file
UnsaidBy file faults.Failed = ⊥
UnsaidBy file faults.Memory = Unit {0}

-- Where a file ceases to say a run: where it ceases to be a journal's; or where its entries, with a line feed behind the last,
-- cease to be the record of a run.
pub data CeasesAt (file : List ℕ) (place : ℕ) : Type 0 where
  no_journal : IsNoJournalAt IsBlock file place → CeasesAt file place
  in_blocks : (blocks : List (List ℕ)) → Says IsBlock file blocks → BreaksAt (front blocks ++ 10 ∷ []) place → CeasesAt file place

-- the place that is told of a file
abbrev pub HasPlace : List ℕ → SayingFault → Type 0
HasPlace file (faults.Record place) = CeasesAt file place
HasPlace file faults.Failed = Unit {0}
HasPlace file faults.Memory = Unit {0}

-- The count of faults hasn't fallen, and the device refused only where it rose.
pub record HasSayingCause {T : Type 0} (before after : ℕ) (result : Result T SayingFault) : Type 0 where
  pub later : before ≤ after
  pub failed : IsErrOf result faults.Failed → Rose before after
