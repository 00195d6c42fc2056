-- What the opening of a site with a record comes to.
use Rattle.std.specs.Prelude.{◌≡◌, ◌⊎◌, ℕ, ◌≤◌, Bool, true, false, List, [], ◌∷◌, length, take, Option, IfSome, Result, IsErrOf}
use Rattle.ob_io.specs.Faults.{Rose}
use Rattle.ob_journal.specs.Device.{LeavesOnly}
use Rattle.ob_journal.specs.declared.device.DeviceFault.{DeviceFault}
use Rattle.ob_journal.specs.declared.device.DeviceFault.TheVariants as devices
use Rattle.ob_journal.specs.Journal.{Says, front}
use Rattle.ob_load.specs.Loads.{IsSite, IsOutside, RefusesBytes}
use Rattle.ob_record.specs.Blocks.{IsBlock}
use Rattle.ob_record.specs.Legal.{IsLegalRun, after_entries}
use Rattle.ob_record.specs.Runs.{Recorded}
use Rattle.ob_record.specs.declared.run.Entry.{Entry}
use Rattle.ob_record_journal.specs.Saying.{SaysRun, SaysNoRun, CeasesAt}
use Rattle.ob_record_journal.specs.declared.saying.SayingFault.{SayingFault}
use Rattle.ob_record_journal.specs.declared.saying.SayingFault.TheVariants as sayings
use Rattle.ob_site_file.specs.declared.fault.LoadFault.{LoadFault}
use Rattle.ob_site_file.specs.declared.fault.LoadFault.TheVariants as loads
use Rattle.ob_site_laws.specs.SiteLaws.{IsSoundSite}
use Rattle.ob_site_rules.specs.Sites.{SiteState}
use Rattle.ob_kept.specs.declared.fault.ReopenFault.{ReopenFault}
use Rattle.ob_kept.specs.declared.fault.ReopenFault.TheVariants as faults
use Rattle.ob_kept.specs.Keeping.{Keeping, IsRecoverable}
use Rattle.ob_kept.specs.Reading.{CeasesToBeLegal, Undone}
use Rattle.ob_kept.specs.Redone.{redone}
use Rattle.ob_kept.specs.Saying.{LeadsTo}

-- the bytes of a file that are looked at: one more than a document may have
abbrev pub site_bytes : List ℕ → List ℕ
site_bytes whole = take 16_777_217 whole

-- What a record gives of a site that was opened at its moment: the file says entries, which leave the state that the site is in;
-- and whether there are some. Without one the moment is the one that was given.
pub record Redoes (file : List ℕ) (given boot : ℕ) (opening now : SiteState) (begun : Bool) : Type 0 where
  pub entries : List Entry
  pub says : SaysRun file boot entries
  pub legal : IsLegalRun redone opening entries
  pub now_is : now ≡ after_entries redone opening entries
  pub unbegun : begun ≡ false → entries ≡ []
  pub some : begun ≡ true → (e : Entry) × (es : List Entry) × (entries ≡ e ∷ es)
  pub anew : Says IsBlock file [] → boot ≡ given

-- a site that was opened, in which no watch stands
pub record IsOpenedAt (content : Option (List ℕ)) (boot : ℕ) (ns : Option (List ℕ)) (opening : SiteState) : Type 0 where
  pub opened : IfSome content (λ whole. IsSite (site_bytes whole) boot ns opening)
  pub bare : opening.world.watches ≡ []
  pub sound : IsSoundSite opening

-- why a site file gave none
pub record Unopened (content : Option (List ℕ)) (boot : ℕ) (fault : ReopenFault) : Type 0 where
  pub why : LoadFault
  pub fault_is : fault ≡ faults.Site why
  pub refused : IfSome content (λ whole. IsOutside why ⊎ RefusesBytes (site_bytes whole) boot why)

-- The entries of a run, from a site that was opened at its moment, are legal, and leave this state.
pub record IsRedone (run : Recorded) (boot : ℕ) (opening now : SiteState) : Type 0 where
  pub boot_is : boot ≡ run.boot
  pub legal : IsLegalRun redone opening run.entries
  pub now_is : now ≡ after_entries redone opening run.entries

-- why a run leaves no site: none was opened at its moment, or the entries aren't legal from one that was
abbrev pub Unready : Option (List ℕ) → Recorded → ReopenFault → Type 0
Unready content run fault =
    Unopened content run.boot fault
    ⊎ ((ns : Option (List ℕ)) × (opening : SiteState) × IsOpenedAt content run.boot ns opening × Undone opening run.entries fault)

-- the fault that one of reading a record leads to
abbrev pub fault_of_saying : SayingFault → ReopenFault
fault_of_saying (sayings.Record place) = faults.Record place
fault_of_saying sayings.Failed = faults.Device
fault_of_saying sayings.Memory = faults.Memory

-- that one of a device leads to
abbrev pub fault_of_device : DeviceFault → ReopenFault
fault_of_device devices.Failed = faults.Device
fault_of_device devices.Memory = faults.Memory

-- The site file, where it is told, opens this state at the moment of the record; and the record, where its device tells, leads
-- from it to the state that the site is in. Without an entry the moment is the one that was given. What a crash may have left is
-- told since the moment of the device that was handed in. The closed gate stands behind what the record says.
pub record Reopens (told : Type 0) (content : Option (List ℕ)) (record_file : List ℕ) (since given : ℕ) (ns : Option (List ℕ)) (k : Keeping) : Type 0 where
  pub opened : IfSome content (λ whole. IsSite (site_bytes whole) k.boot ns k.opening)
  pub leads : told → LeadsTo k.boot k.opening record_file k.now
  pub anew : told → Says IsBlock record_file [] → k.boot ≡ given
  pub since_is : k.since ≡ since
  pub past : k.past ≡ []
  pub next_is : k.next ≡ k.now.world.next
  pub end_is : told → (blocks : List (List ℕ)) → Says IsBlock record_file blocks → k.end ≡ length (front blocks)
  pub sound : IsSoundSite k.now

-- why a record gave no site
abbrev pub Refuses : (told : Type 0) → (content : Option (List ℕ)) → (record_file : List ℕ) → (given : ℕ) → ReopenFault → Type 0
Refuses told content record_file given (faults.Record place) = told → SaysNoRun record_file × CeasesAt record_file place
Refuses told content record_file given (faults.Illegal entry) =
    (boot : ℕ) × (opening : SiteState) × ((ns : Option (List ℕ)) × IfSome content (λ whole. IsSite (site_bytes whole) boot ns opening))
    × (told → (entries : List Entry) × SaysRun record_file boot entries × CeasesToBeLegal opening entries entry)
Refuses told content record_file given (faults.Site fault) =
    (boot : ℕ) × (IfSome content (λ whole. IsOutside fault ⊎ RefusesBytes (site_bytes whole) boot fault))
    × (told → (Says IsBlock record_file [] × (boot ≡ given)) ⊎ ((entries : List Entry) × SaysRun record_file boot entries))
Refuses told content record_file given faults.Device = Unit {0}
Refuses told content record_file given faults.Memory = Unit {0}

-- A crash at any moment of the opening leaves a file that says what it said.
abbrev pub SaysAsBefore : {D : Type 0} → (moment : D → ℕ) → (left_since : D → ℕ → List ℕ → Type 0) → List ℕ → D → D → Type 0
SaysAsBefore moment left_since file old new = (blocks : List (List ℕ)) → Says IsBlock file blocks → LeavesOnly moment left_since old new (λ c. Says IsBlock c blocks)

-- A fault has its cause in a count: of the device, or of the files.
pub record HasCauses (device device' files files' : ℕ) (fault : ReopenFault) : Type 0 where
  pub later : device ≤ device'
  pub device_failed : fault ≡ faults.Device → Rose device device'
  pub file_failed : fault ≡ faults.Site loads.Read → Rose files files'

-- The count of faults of files hasn't fallen, and they refused only where it rose.
pub record HasFileCause {T : Type 0} (before after : ℕ) (result : Result T ReopenFault) : Type 0 where
  pub later : before ≤ after
  pub failed : IsErrOf result (faults.Site loads.Read) → Rose before after

-- The count of faults hasn't fallen, and the device refused only where it rose.
pub record HasReopenCause {T : Type 0} (before after : ℕ) (result : Result T ReopenFault) : Type 0 where
  pub later : before ≤ after
  pub failed : IsErrOf result faults.Device → Rose before after

-- a site that goes on with its record, whose closed gate stands at this place
abbrev pub starting : (since boot : ℕ) → (opening now : SiteState) → (end : ℕ) → (begun : Bool) → Keeping
starting since boot opening now end begun = record { boot = boot; opening = opening; since = since; past = []; now = now; end = end; next = now.world.next; begun = begun }

-- A site that is as its record leaves it: what is owed where it goes on with that record.
abbrev pub KeepsOn : {D : Type 0} → (seen : D → List ℕ) → (may_leave : D → List ℕ → Type 0) → (moment : D → ℕ) → (left_since : D → ℕ → List ℕ → Type 0)
    → (since boot : ℕ) → (opening now : SiteState) → (device : D) → (end : ℕ) → (begun : Bool) → Type 0
KeepsOn seen may_leave moment left_since since boot opening now device end begun =
    IsRecoverable seen may_leave moment left_since (starting since boot opening now end begun) device false
