-- What the writing of a shorter record of a site comes to.
use Rattle.std.specs.Prelude.{◌≡◌, ◌⊎◌, ⊤, ℕ, ◌≤◌, List, ◌++◌, codes, decimal, Option, IfSome, Result, Ok, Err, IfOk, IfErr}
use Rattle.ob_io.specs.Faults.{Rose}
use Rattle.ob_journal.specs.Device.{LeavesOnly, Only}
use Rattle.ob_journal.specs.declared.device.DeviceFault.{DeviceFault}
use Rattle.ob_kept.specs.Compacting.{IsUncompacted, LeavesFresh, SaysCompacted}
use Rattle.ob_kept.specs.declared.compacting.Compacted.{Compacted}
use Rattle.ob_kept.specs.declared.fault.CompactFault.{CompactFault}
use Rattle.ob_kept.specs.declared.fault.CompactFault.TheVariants as faults
use Rattle.ob_load.specs.Loads.{OpensSite}
use Rattle.ob_record_journal.specs.Writing.{LeavesOld}
use Rattle.ob_io.specs.declared.cause.Cause.{Cause}
use Rattle.ob_io.specs.declared.cause.RefusedFile.{RefusedFile}
use Rattle.ob_program.specs.Keeping.{ComesBack, IsOfRecord, OpensRecord, end_of_device, end_of_reopen, exit_of_keep}
use Rattle.ob_program.specs.Outside.{DevicesTold}
use Rattle.ob_program.specs.Serving.{Prints}
use Rattle.ob_program.specs.Stdio.{site_bytes}
use Rattle.ob_program.specs.Telling.{ErrorsTold, Tells}
use Rattle.ob_program.specs.Words.{compact_words}
use Rattle.ob_program.specs.declared.compact.CompactEnd.{CompactEnd}
use Rattle.ob_program.specs.declared.compact.CompactEnd.TheVariants.{Written, Taken, Ended}
use Rattle.ob_program.specs.declared.exit.Exit.{Exit}
use Rattle.ob_program.specs.declared.exit.Exit.TheVariants as exits
use Rattle.ob_program.specs.declared.keep.KeepEnd.{KeepEnd}
use Rattle.ob_program.specs.declared.keep.KeepEnd.TheVariants.{Served, RecordFault}
use Rattle.ob_program.specs.declared.serve.ServeEnd.TheVariants as serves

abbrev pub exit_of_compact : CompactEnd → Exit
exit_of_compact (Written counts) = exits.Ok
exit_of_compact Taken = exits.Refused
exit_of_compact (Ended end) = exit_of_keep end

-- the end that comes where no record was written
abbrev pub end_of_compact : CompactFault → CompactEnd
end_of_compact (faults.Reopen fault) = Ended (end_of_reopen fault)
end_of_compact faults.Taken = Taken

-- the record gives no site, or the new file isn't new
abbrev pub IsOfFiles : CompactEnd → Type 0
IsOfFiles (Written counts) = ⊥
IsOfFiles Taken = ⊤
IsOfFiles (Ended end) = IsOfRecord end

-- the record's file couldn't be read or opened
abbrev pub OpensNone : KeepEnd → Type 0
OpensNone (Served serves.ReadFault) = ⊤
OpensNone (Served serves.Memory) = ⊤
OpensNone RecordFault = ⊤
OpensNone _ = ⊥

-- how many entries the new record has, and how many the old one
abbrev pub compact_text : Compacted → List ℕ
compact_text c = codes "compacted " ++ (decimal c.after ++ (codes " of " ++ (decimal c.before ++ codes "\n")))

-- A fault has its cause in a count.
abbrev pub CompactRose : CompactEnd → (files files' records records' writes writes' : ℕ) → Type 0
CompactRose (Ended RecordFault) files files' records records' writes writes' = Rose records records'
CompactRose (Ended (Served serves.ReadFault)) files files' records records' writes writes' = Rose files files'
CompactRose (Ended (Served serves.WriteFault)) files files' records records' writes writes' = Rose writes writes'
CompactRose (Ended (Served serves.Done)) files files' records records' writes writes' = ⊥
CompactRose (Ended (Served serves.PortFault)) files files' records records' writes writes' = ⊥
CompactRose (Ended (Served serves.ClockFault)) files files' records records' writes writes' = ⊥
CompactRose _ files files' records records' writes writes' = ⊤

-- the same while the record's device is in hand: a fault of it isn't counted yet
abbrev pub RoseSoFar : CompactEnd → (files files' records records' failures failures' : ℕ) → Type 0
RoseSoFar (Ended RecordFault) files files' records records' failures failures' = Rose records records' ⊎ Rose failures failures'
RoseSoFar end files files' records records' failures failures' = CompactRose end files files' records records' 0 0

-- a device that has failed decides the end
abbrev pub EndsWith : (failed : ℕ) → Result Compacted CompactFault → Result Compacted CompactEnd → Type 0
EndsWith failed came result =
    ((¬ (failed ≡ 0)) × (result ≡ Err (Ended RecordFault)))
    ⊎ ((failed ≡ 0) × (((counts : Compacted) × (came ≡ Ok counts) × (result ≡ Ok counts)) ⊎ ((fault : CompactFault) × (came ≡ Err fault) × (result ≡ Err (end_of_compact fault)))))

-- Of devices told says whether what follows is told of one; seen, may_leave, moment and left_since what its file is, and what a crash
-- may leave of it; failures how often a call has failed.
module _ {V : Type 0} (told : Type 0) (seen : V → List ℕ) (may_leave : V → List ℕ → Type 0) (moment : V → ℕ)
    (left_since : V → ℕ → List ℕ → Type 0) (failures : V → ℕ) where
  -- A new record was written, all of it is on the disk, and a site goes on by it as by the old one.
  pub record IsWritten (content : Option (List ℕ)) (old fresh : V) (counts : Compacted) : Type 0 where
    pub says : told → SaysCompacted content (seen old) (seen fresh) counts.before counts.after
    pub durable : told → Only (seen fresh) (may_leave fresh)

  -- what came of two devices: a new record; or none, and why, and where the old one gives no site the new file is as it was
  abbrev pub CompactsDevices : (content : Option (List ℕ)) → (old fresh fresh' : V) → Result Compacted CompactFault → Type 0
  CompactsDevices content old fresh fresh' (Ok counts) = IsWritten content old fresh' counts
  CompactsDevices content old fresh fresh' (Err fault) = IsUncompacted told content (seen old) (seen fresh) fault × LeavesFresh fresh fresh' fault

  -- The record's device was read alone, and a crash at any moment would have left what it might have left before. The new file couldn't
  -- be opened; or it was, and came back, as it was where it isn't new.
  pub record CompactsInto (content : Option (List ℕ)) (name : List ℕ) (files files' : ℕ) (v v' : DevicesTold V) (old old' : V) (result : Result Compacted CompactEnd) : Type 0 where
    pub stays : told → seen old' ≡ seen old
    pub any_moment : told → LeavesOnly moment left_since old old' (may_leave old)
    pub comes :
        ((fault : DeviceFault) × (result ≡ Err (Ended (end_of_device fault))) × (v'.given ≡ v.given) × (v'.returned ≡ v.returned))
        ⊎ ((opened : DevicesTold V) × (device : V) × (device' : V) × (came : Result Compacted CompactFault)
        × OpensRecord told seen may_leave moment left_since failures name v opened device × ComesBack opened v' device'
        × CompactsDevices content old device device' came × (told → LeavesOld seen may_leave device device') × EndsWith (failures device') came result)
    pub rose : IfErr result (λ end. RoseSoFar end files files' v.faults v'.faults (failures old) (failures old'))
    pub files_later : files ≤ files'
    pub later : ((v.faults ≤ v'.faults) ⊎ Rose v.faults v'.faults) × (failures old ≤ failures old')

  -- The record's file couldn't be read or opened; or it was opened, and came back.
  pub record CompactsFile (content : Option (List ℕ)) (file name : List ℕ) (files files' : ℕ) (v v' : DevicesTold V) (result : Result Compacted CompactEnd) : Type 0 where
    pub comes :
        ((end : KeepEnd) × OpensNone end × (result ≡ Err (Ended end)) × (v'.given ≡ v.given) × (v'.returned ≡ v.returned))
        ⊎ ((opened : DevicesTold V) × (into : DevicesTold V) × (device : V) × (device' : V) × (came : Result Compacted CompactEnd) × (f : ℕ) × (f' : ℕ)
        × OpensRecord told seen may_leave moment left_since failures file v opened device
        × CompactsInto content name f f' opened into device device' came × ComesBack into v' device'
        × (((¬ (failures device' ≡ 0)) × (result ≡ Err (Ended RecordFault))) ⊎ ((failures device' ≡ 0) × (result ≡ came))))
    pub rose : IfErr result (λ end. CompactRose end files files' v.faults v'.faults 0 0)

  -- Where a new record was written, its line was printed, or a front of it; and where none was, nothing was printed.
  pub record CompactComes (content : Option (List ℕ)) (file name : List ℕ) (files files' : ℕ) (v v' : DevicesTold V) (held held' : Option (List ℕ)) (end : CompactEnd) : Type 0 where
    pub result : Result Compacted CompactEnd
    pub comes : CompactsFile content file name files files' v v' result
    pub unwritten : IfErr result (λ e. (e ≡ end) × (held' ≡ held))
    pub written : IfOk result (λ counts. Prints held held' (compact_text counts) (end ≡ Written counts)
        × ((end ≡ Written counts) ⊎ ((end ≡ Ended (Served serves.WriteFault)) ⊎ (end ≡ Ended (Served serves.Memory)))))

  -- The writing came to some end, which is the exit. Where the site file opens a site and no count rose, that is a good one, or
  -- memory was wanting, or one of the two files isn't what it has to be. The end is told on `errors`.
  pub record CompactRan (content : Option (List ℕ)) (file name : List ℕ) (files files' : ℕ) (v v' : DevicesTold V) (held held' : Option (List ℕ))
      (writes writes' : ℕ) (refused : Option RefusedFile) (device_refusal : Cause) (e e' : ErrorsTold) (exit : Exit) : Type 0 where
    pub end : CompactEnd
    pub exit_is : exit ≡ exit_of_compact end
    pub comes : CompactComes content file name files files' v v' held held' end
    pub rose : CompactRose end files files' v.faults v'.faults writes writes'
    pub says : Tells e e' exit (compact_words refused device_refusal end)
    pub complete : IfSome content (λ whole. OpensSite (site_bytes whole)
        → ¬ (Rose files files') → ¬ (Rose v.faults v'.faults) → ¬ (Rose writes writes')
        → (exit ≡ exits.Ok) ⊎ ((exit ≡ exits.Memory) ⊎ IsOfFiles end))
