-- A record with fewer entries that leads a site to the same.
use Rattle.std.specs.Prelude.{◌≡◌, ◌⊎◌, ℕ, ◌<◌, ◌≤◌, Bool, true, false, List, [], length, Option, IfSome, Result, IsErrOf}
use Rattle.ob_io.specs.Faults.{Rose}
use Rattle.ob_journal.specs.Journal.{Says}
use Rattle.ob_load.specs.Loads.{IsSite}
use Rattle.ob_record.specs.Blocks.{IsBlock}
use Rattle.ob_record.specs.Legal.{IsLegalRun, after_entries}
use Rattle.ob_record.specs.Runs.{Recorded, Records}
use Rattle.ob_record.specs.Sifted.{IsPartOf}
use Rattle.ob_record.specs.declared.run.Entry.{Entry}
use Rattle.ob_record_journal.specs.Saying.{SaysRun}
use Rattle.ob_record_journal.specs.declared.writing.WritingFault.{WritingFault}
use Rattle.ob_record_journal.specs.declared.writing.WritingFault.TheVariants as writings
use Rattle.ob_site_file.specs.declared.fault.LoadFault.TheVariants as loads
use Rattle.ob_site_lasting.specs.SiteLasting.{IsSiteRestartOf}
use Rattle.ob_site_laws.specs.SiteLaws.{IsSoundSite}
use Rattle.ob_site_rules.specs.Sites.{SiteState}
use Rattle.ob_kept.specs.declared.fault.CompactFault.{CompactFault}
use Rattle.ob_kept.specs.declared.fault.CompactFault.TheVariants as faults
use Rattle.ob_kept.specs.declared.fault.ReopenFault.{ReopenFault}
use Rattle.ob_kept.specs.declared.fault.ReopenFault.TheVariants as reopens
use Rattle.ob_kept.specs.Redone.{redone}
use Rattle.ob_kept.specs.Reopening.{site_bytes, IsOpenedAt, Unopened, Refuses}

-- The site file opens a state at this moment. From it these entries are legal and those are; and a site goes on from what the new
-- ones leave of it as, by a restart, it may go on from what the old ones leave.
pub record GoesOnBy (site : List ℕ) (boot : ℕ) (old new : List Entry) : Type 0 where
  pub ns : Option (List ℕ)
  pub opening : SiteState
  pub opens : IsSite site boot ns opening
  pub legal : IsLegalRun redone opening old
  pub legal_new : IsLegalRun redone opening new
  pub restart : IsSiteRestartOf (after_entries redone opening old) (after_entries redone opening new)

-- The new entries are some of the old ones, in their order, and a site goes on by them, where the site file is told.
pub record Compacts (content : Option (List ℕ)) (boot : ℕ) (old new : List Entry) : Type 0 where
  pub part : IsPartOf new old
  pub goes_on : IfSome content (λ whole. GoesOnBy (site_bytes whole) boot old new)

-- the bytes are the record of a run by which a site goes on as by this one
pub record IsCompacted (content : Option (List ℕ)) (run : Recorded) (bytes : List ℕ) : Type 0 where
  pub entries : List Entry
  pub records : Records bytes (record { boot = run.boot; entries = entries })
  pub compacts : Compacts content run.boot run.entries entries

-- What the new file says, where devices tell: fewer entries by which a site goes on as by those that the old file says, or none
-- where that says none.
pub data SaysCompacted (content : Option (List ℕ)) (file new : List ℕ) (before after : ℕ) : Type 0 where
  none : Says IsBlock file [] → Says IsBlock new [] → before ≡ 0 → after ≡ 0 → SaysCompacted content file new before after
  some : (boot : ℕ) → (old entries : List Entry) → SaysRun file boot old → SaysRun new boot entries → before ≡ length old → after ≡ length entries
      → Compacts content boot old entries → SaysCompacted content file new before after

-- all that lasts is as it was; no number is given again, and it is no later
pub record LeavesAlike (left other : SiteState) : Type 0 where
  pub site : other.world.site ≡ left.world.site
  pub next : left.world.next ≤ other.world.next
  pub time : other.world.time ≤ left.world.time

-- These entries are legal from what the site file opens at their moment; and what they leave has, if it is of the plan of this
-- state, all that lasts of it, gives no number again and is no later.
pub record IsAlike (content : Option (List ℕ)) (left : SiteState) (run : Recorded) : Type 0 where
  pub ns : Option (List ℕ)
  pub opening : SiteState
  pub opened : IsOpenedAt content run.boot ns opening
  pub legal : IsLegalRun redone opening run.entries
  pub sound : IsSoundSite (after_entries redone opening run.entries)
  pub alike : left.plan ≡ (after_entries redone opening run.entries).plan → LeavesAlike left (after_entries redone opening run.entries)

-- none was opened at this moment, or memory was wanting
abbrev pub IsUntried : Option (List ℕ) → ℕ → ReopenFault → Type 0
IsUntried content boot fault = Unopened content boot fault ⊎ (fault ≡ reopens.Memory)

-- an entry keeps another reply than the one that it gets
abbrev pub is_illegal : ReopenFault → Bool
is_illegal (reopens.Illegal entry) = true
is_illegal _ = false

-- the fault that one of writing leads to
abbrev pub fault_of_writing : WritingFault → CompactFault
fault_of_writing writings.Taken = faults.Taken
fault_of_writing writings.Failed = faults.Reopen reopens.Device
fault_of_writing writings.Memory = faults.Reopen reopens.Memory

-- Why none was written: the record gives no site, as for an opening; or the new file isn't new. Without an entry no site is opened,
-- so no moment counts.
abbrev pub IsUncompacted : (told : Type 0) → (content : Option (List ℕ)) → (file new : List ℕ) → CompactFault → Type 0
IsUncompacted told content file new (faults.Reopen fault) = Refuses told content file 0 fault
IsUncompacted told content file new faults.Taken = told → 14 < length new

-- Where the record gives no site, the device of the new file is as it was.
abbrev pub LeavesFresh : {D : Type 0} → (old new : D) → CompactFault → Type 0
LeavesFresh old new (faults.Reopen (reopens.Record place)) = new ≡ old
LeavesFresh old new (faults.Reopen (reopens.Illegal entry)) = new ≡ old
LeavesFresh old new (faults.Reopen (reopens.Site why)) = new ≡ old
LeavesFresh old new _ = Unit {0}

-- The counts haven't fallen, and devices or files refused only where theirs rose: of the device of the record and that of the new
-- one, and of files.
pub record HasCompactCause {T : Type 0} (device device' new new' files files' : ℕ) (result : Result T CompactFault) : Type 0 where
  pub device_later : device ≤ device'
  pub new_later : new ≤ new'
  pub files_later : files ≤ files'
  pub device_failed : IsErrOf result (faults.Reopen reopens.Device) → Rose device device' ⊎ Rose new new'
  pub file_failed : IsErrOf result (faults.Reopen (reopens.Site loads.Read)) → Rose files files'
