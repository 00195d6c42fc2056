-- What the service at a port of a site that is kept comes to.
use Rattle.std.specs.Prelude.{◌≡◌, ◌⊎◌, ⊤, ℕ, ◌≤◌, Bool, true, cond, List, [], ◌∷◌, Option, IfSome}
use Rattle.ob_io.specs.Faults.{Rose}
use Rattle.ob_io.specs.Ticks.{Pace}
use Rattle.ob_io.specs.Told.{Gains}
use Rattle.ob_io.specs.Visits.{Visit}
use Rattle.ob_journal.specs.Device.{Only}
use Rattle.ob_journal.specs.declared.device.DeviceFault.{DeviceFault}
use Rattle.ob_journal.specs.declared.device.DeviceFault.TheVariants as devices
use Rattle.ob_kept.specs.Fronts.{KeepsLaws}
use Rattle.ob_kept.specs.Keeping.{IsLeft, Keeping, kept_act}
use Rattle.ob_kept.specs.Reopening.{Refuses, Reopens, SaysAsBefore}
use Rattle.ob_kept.specs.declared.fault.ReopenFault.{ReopenFault}
use Rattle.ob_kept.specs.declared.fault.ReopenFault.TheVariants as reopens
use Rattle.ob_load.specs.Loads.{OpensSite}
use Rattle.ob_io.specs.declared.cause.Cause.{Cause}
use Rattle.ob_io.specs.declared.cause.RefusedFile.{RefusedFile}
use Rattle.ob_program.specs.Outside.{ClockTold, DevicesTold, PortTold}
use Rattle.ob_program.specs.Serving.{AtPlace, IsUntouched, ServeRose, end_of_load, exit_of_serve}
use Rattle.ob_program.specs.Stdio.{site_bytes}
use Rattle.ob_program.specs.Telling.{ErrorsTold, Tells}
use Rattle.ob_program.specs.Words.{keep_words}
use Rattle.ob_program.specs.declared.exit.Exit.{Exit}
use Rattle.ob_program.specs.declared.exit.Exit.TheVariants as exits
use Rattle.ob_program.specs.declared.keep.KeepEnd.{KeepEnd}
use Rattle.ob_program.specs.declared.keep.KeepEnd.TheVariants.{Served, NoRecord, Illegal, RecordFault}
use Rattle.ob_program.specs.declared.serve.ServeEnd.{ServeEnd}
use Rattle.ob_program.specs.declared.serve.ServeEnd.TheVariants as serves

abbrev pub exit_of_keep : KeepEnd → Exit
exit_of_keep (Served end) = exit_of_serve end
exit_of_keep (NoRecord place) = exits.Refused
exit_of_keep (Illegal entry) = exits.IllegalRecord
exit_of_keep RecordFault = exits.RecordFault

-- the end that comes where the record's file can't be opened
abbrev pub end_of_device : DeviceFault → KeepEnd
end_of_device devices.Failed = RecordFault
end_of_device devices.Memory = Served serves.Memory

-- the end that comes where no site was opened with its record
abbrev pub end_of_reopen : ReopenFault → KeepEnd
end_of_reopen (reopens.Record place) = NoRecord place
end_of_reopen (reopens.Illegal entry) = Illegal entry
end_of_reopen (reopens.Site fault) = Served (end_of_load fault)
end_of_reopen reopens.Device = RecordFault
end_of_reopen reopens.Memory = Served serves.Memory

-- The end that comes of a service, and of whether a call of the record's device has failed. Then the device isn't gone on with: where
-- it hasn't counted a fault, memory was wanting.
abbrev pub end_of_service : ServeEnd → (failed : Bool) → KeepEnd
end_of_service end failed = Served (cond failed serves.Memory end)

-- the record gives no site
abbrev pub IsOfRecord : KeepEnd → Type 0
IsOfRecord (Served end) = ⊥
IsOfRecord (NoRecord place) = ⊤
IsOfRecord (Illegal entry) = ⊤
IsOfRecord RecordFault = ⊥

-- A fault has its cause in a count.
abbrev pub KeepRose : KeepEnd → (files files' records records' writes writes' : ℕ) → (p p' : PortTold) → (t t' : ClockTold) → Type 0
KeepRose (Served end) files files' records records' writes writes' p p' t t' = ServeRose end files files' writes writes' p p' t t'
KeepRose (NoRecord place) files files' records records' writes writes' p p' t t' = ⊤
KeepRose (Illegal entry) files files' records records' writes writes' p p' t t' = ⊤
KeepRose RecordFault files files' records records' writes writes' p p' t t' = Rose records records'

-- a device that has failed decides the end
abbrev pub EndsBy : (failures : ℕ) → (came end : KeepEnd) → Type 0
EndsBy failures came end = ((¬ (failures ≡ 0)) × (end ≡ RecordFault)) ⊎ ((failures ≡ 0) × (end ≡ came))

-- ---- the device of the record

module _ {V : Type 0} where
  -- none was opened
  pub record IsUnopened (v v' : DevicesTold V) (end : KeepEnd) : Type 0 where
    pub fault : DeviceFault
    pub end_is : end ≡ end_of_device fault
    pub given_is : v'.given ≡ v.given
    pub returned_is : v'.returned ≡ v.returned

  -- this one came back, and was counted if it had failed
  pub record ComesBack (v v' : DevicesTold V) (device : V) : Type 0 where
    pub returned : Gains v.returned (device ∷ []) v'.returned
    pub given_is : v'.given ≡ v.given
    pub counts : (v'.faults ≡ v.faults) ⊎ Rose v.faults v'.faults

-- Of devices told says whether what follows is told of one; seen, may_leave, moment and left_since what its file is, and what a
-- crash may leave of it; failures how often a call has failed.
module _ {V : Type 0} (told : Type 0) (seen : V → List ℕ) (may_leave : V → List ℕ → Type 0) (moment : V → ℕ)
    (left_since : V → ℕ → List ℕ → Type 0) (failures : V → ℕ) where
  -- This device was opened by the record's name, and what it reads is on the disk.
  pub record OpensRecord (file : List ℕ) (v v' : DevicesTold V) (device : V) : Type 0 where
    pub given : Gains v.given (record { name = file; device = device } ∷ []) v'.given
    pub durable : told → Only (seen device) (may_leave device)
    pub fresh : failures device ≡ 0
    pub returned_is : v'.returned ≡ v.returned
    pub later : v.faults ≤ v'.faults

  -- No site came of it, and a crash at any moment would have left a file that says what it said.
  pub record IsUnkept (content : Option (List ℕ)) (boot : ℕ) (device device' : V) (end : KeepEnd) : Type 0 where
    pub fault : ReopenFault
    pub end_is : end ≡ end_of_reopen fault
    pub refuses : Refuses told content (seen device) boot fault
    pub back : told → SaysAsBefore moment left_since (seen device) device device'

  -- Of doors faults, handed, returned, visits and closed say what is told; of clocks given, pace and misses.
  module _ {D C : Type 0} (faults handed returned : D → ℕ) (visits : D → Option (List Visit)) (closed : D → Bool)
      (given : C → Option (List ℕ)) (pace : C → Option Pace) (misses : C → ℕ) where
    -- A site was opened with its record and served. Where the device is told, what it left leads to where the site may go on: the
    -- files of a crash at any moment since it was handed in, from one of the states that it has been in, those in which it was
    -- asked; or, only where a call of the device has failed, from one request more.
    pub record ServesKept (content : Option (List ℕ)) (boot : ℕ) (host : List ℕ) (place wanted quota : ℕ)
        (held held' : Option (List ℕ)) (writes writes' : ℕ) (p p' : PortTold) (t t' : ClockTold) (device device' : V) (failed : Bool) (end : ServeEnd) : Type 0 where
      pub ns : Option (List ℕ)
      pub opening : Keeping
      pub reopens : Reopens told content (seen device) (moment device) boot ns opening
      pub left : Keeping
      pub at : AtPlace faults handed returned visits closed given pace misses kept_act opening (λ history. KeepsLaws opening history left)
          true left ns host place wanted quota held held' writes writes' p p' t t' end
      pub leaves : told → IsLeft seen may_leave moment left_since left device' failed

    -- what was done over a device that was opened
    pub record KeepsDevice (content : Option (List ℕ)) (boot : ℕ) (host : List ℕ) (place wanted quota : ℕ) (files files' : ℕ)
        (held held' : Option (List ℕ)) (writes writes' : ℕ) (p p' : PortTold) (t t' : ClockTold) (device device' : V) (end : KeepEnd) : Type 0 where
      pub comes :
          (IsUntouched held held' p p' t t' × IsUnkept content boot device device' end)
          ⊎ ((served : ServeEnd) × (failed : Bool) × (end ≡ end_of_service served failed)
          × ServesKept content boot host place wanted quota held held' writes writes' p p' t t' device device' failed served)
      pub rose : KeepRose end files files' (failures device) (failures device') writes writes' p p' t t'
      pub files_later : files ≤ files'

    -- The clock's next moment is the one at which a record begins that has no entry, where it tells its moments. A device that has
    -- failed decides the end.
    pub record KeepComes (content : Option (List ℕ)) (file host : List ℕ) (place wanted quota : ℕ) (files files' : ℕ) (v v' : DevicesTold V)
        (held held' : Option (List ℕ)) (writes writes' : ℕ) (p p' : PortTold) (t t' : ClockTold) (end : KeepEnd) : Type 0 where
      pub comes :
          ((end ≡ Served serves.ClockFault) × Gains t.given [] t'.given × (held' ≡ held) × (p' ≡ p) × (v' ≡ v))
          ⊎ ((boot : ℕ) × (booted : ClockTold) × Gains t.given (boot ∷ []) booted.given × (booted.twins ≡ t.twins)
          × ((IsUntouched held held' p p' booted t' × IsUnopened v v' end)
          ⊎ ((opened : DevicesTold V) × (device : V) × (device' : V) × (came : KeepEnd) × OpensRecord file v opened device × ComesBack opened v' device'
          × KeepsDevice content boot host place wanted quota files files' held held' writes writes' p p' booted t' device device' came
          × EndsBy (failures device') came end)))
      pub rose : KeepRose end files files' v.faults v'.faults writes writes' p p' t t'

    -- The service came to some end, which is the exit. Where the site file opens a site and no count rose, that is a good one, or
    -- memory was wanting, or the record gives no site. The end is told on `errors`.
    pub record KeepRan (content : Option (List ℕ)) (file host : List ℕ) (place wanted quota : ℕ) (files files' : ℕ) (v v' : DevicesTold V)
        (held held' : Option (List ℕ)) (writes writes' : ℕ) (p p' : PortTold) (t t' : ClockTold) (refused : Option RefusedFile) (refusal device_refusal : Cause) (e e' : ErrorsTold) (exit : Exit) : Type 0 where
      pub end : KeepEnd
      pub exit_is : exit ≡ exit_of_keep end
      pub comes : KeepComes content file host place wanted quota files files' v v' held held' writes writes' p p' t t' end
      pub says : Tells e e' exit (keep_words refused refusal device_refusal end)
      pub complete : IfSome content (λ whole. OpensSite (site_bytes whole)
          → ¬ (Rose files files') → ¬ (Rose v.faults v'.faults) → ¬ (Rose writes writes') → ¬ (Rose p.faults p'.faults) → ¬ (Rose t.faults t'.faults)
          → (exit ≡ exits.Ok) ⊎ ((exit ≡ exits.Memory) ⊎ IsOfRecord end))
