-- What the audit of a record from a site file comes to.
use Rattle.std.specs.Prelude.{◌≡◌, ◌⊎◌, ℕ, ◌≤◌, ◌<◌, ◌^◌, List, ◌++◌, length, codes, decimal, Option, Ok, IfSome}
use Rattle.ob_io.specs.Faults.{Rose}
use Rattle.ob_load.specs.Loads.{IsSite, OpensSite, RefusesBytes, IsOutside}
use Rattle.ob_record.specs.Broken.{BreaksAt}
use Rattle.ob_record.specs.Legal.{Audits}
use Rattle.ob_record.specs.Runs.{Recorded, Records}
use Rattle.ob_record.specs.declared.auditing.Verdict.{Verdict}
use Rattle.ob_record.specs.declared.auditing.Verdict.TheVariants.{Legal, Illegal}
use Rattle.ob_site_file.specs.declared.fault.LoadFault.{LoadFault}
use Rattle.ob_site_file.specs.declared.fault.LoadFault.TheVariants as loads
use Rattle.ob_site_laws.specs.SiteLaws.{acts}
use Rattle.ob_site_rules.specs.Sites.{SiteState}
use Rattle.ob_io.specs.declared.cause.RefusedFile.{RefusedFile}
use Rattle.ob_program.specs.declared.audit.AuditEnd.{AuditEnd}
use Rattle.ob_program.specs.declared.audit.AuditEnd.TheVariants as ends
use Rattle.ob_program.specs.declared.audit.RunFault.{RunFault}
use Rattle.ob_program.specs.declared.audit.RunFault.TheVariants as faults
use Rattle.ob_program.specs.declared.exit.Exit.{Exit}
use Rattle.ob_program.specs.declared.exit.Exit.TheVariants as exits
use Rattle.ob_program.specs.Serving.{Prints}
use Rattle.ob_program.specs.Stdio.{site_bytes, IsRefusedAs}
use Rattle.ob_program.specs.Telling.{ErrorsTold, Tells}
use Rattle.ob_program.specs.Words.{audit_words}

-- a record's file has at most 1,073,741,824 bytes
abbrev pub most_bytes : ℕ
most_bytes = 1_073_741_824

-- the bytes of a file are the record of this run
abbrev pub IsRecordOf : Recorded → List ℕ → Type 0
IsRecordOf run whole = (length whole ≤ most_bytes) × Records whole run

-- they are that of none: the first line or entry that no run has begins at this place, or there are too many bytes
abbrev pub IsNoRecord : ℕ → List ℕ → Type 0
IsNoRecord place whole = ((length whole ≤ most_bytes) × BreaksAt whole place) ⊎ ((most_bytes < length whole) × (place ≡ most_bytes))

-- why no run was read of bytes
abbrev pub Unread : List ℕ → RunFault → Type 0
Unread bytes (faults.Record place) = BreaksAt bytes place
Unread bytes faults.Failed = ⊥
Unread bytes faults.Memory = Unit {0}

-- why no run was read of a record's file
abbrev pub NoRun : Option (List ℕ) → RunFault → Type 0
NoRun file (faults.Record place) = IfSome file (IsNoRecord place)
NoRun file faults.Failed = Unit {0}
NoRun file faults.Memory = Unit {0}

-- `legal N` with the number of entries, or `illegal at K` with the place of the first entry that isn't legal, from 0; and a
-- line feed
abbrev pub verdict_text : Verdict → List ℕ
verdict_text (Legal entries) = codes "legal " ++ (decimal entries ++ codes "\n")
verdict_text (Illegal entry expected) = codes "illegal at " ++ (decimal entry ++ codes "\n")

abbrev pub exit_of_verdict : Verdict → Exit
exit_of_verdict (Legal entries) = exits.Ok
exit_of_verdict (Illegal entry expected) = exits.Illegal

abbrev pub exit_of_audit : AuditEnd → Exit
exit_of_audit (ends.Told verdict) = exit_of_verdict verdict
exit_of_audit (ends.NoRecord place) = exits.Refused
exit_of_audit (ends.NoSite fault) = exits.Refused
exit_of_audit ends.ReadFault = exits.ReadFault
exit_of_audit ends.WriteFault = exits.WriteFault
exit_of_audit ends.Memory = exits.Memory

-- the end that a refusal of a site file leads to
abbrev pub end_of_load : LoadFault → AuditEnd
end_of_load loads.Read = ends.ReadFault
end_of_load loads.Memory = ends.Memory
end_of_load fault = ends.NoSite fault

-- the end that comes where no run was read
abbrev pub end_of_run : RunFault → AuditEnd
end_of_run (faults.Record place) = ends.NoRecord place
end_of_run faults.Failed = ends.ReadFault
end_of_run faults.Memory = ends.Memory

-- the site's file opens this state, where it is told
abbrev pub Opens : Option (List ℕ) → ℕ → SiteState → Type 0
Opens site boot opening = (ns : Option (List ℕ)) × IfSome site (λ whole. IsSite (site_bytes whole) boot ns opening)

abbrev pub Refuses : Option (List ℕ) → ℕ → LoadFault → Type 0
Refuses site boot fault = IfSome site (λ whole. IsOutside fault ⊎ RefusesBytes (site_bytes whole) boot fault)

-- The run was audited from the state that the site's file opens at its first moment: the verdict is `Legal` exactly where it is
-- legal from there.
pub record Judges (site : Option (List ℕ)) (run : Recorded) (verdict : Verdict) : Type 0 where
  pub opening : SiteState
  pub opened : Opens site run.boot opening
  pub last : SiteState
  pub audits : Audits acts opening last run.entries (Ok verdict)

-- why a run wasn't judged
abbrev pub Unjudged : Option (List ℕ) → (boot files files' : ℕ) → AuditEnd → Type 0
Unjudged site boot files files' (ends.NoSite fault) = IsRefusedAs site boot fault
Unjudged site boot files files' ends.ReadFault = Rose files files'
Unjudged site boot files files' ends.Memory = Unit {0}
Unjudged site boot files files' _ = ⊥

-- why no run of a record's file was judged
abbrev pub JudgesNone : (site file : Option (List ℕ)) → (files files' : ℕ) → AuditEnd → Type 0
JudgesNone site file files files' (ends.NoRecord place) = IfSome file (IsNoRecord place)
JudgesNone site file files files' (ends.NoSite fault) = (run : Recorded) × IfSome file (IsRecordOf run) × IsRefusedAs site run.boot fault
JudgesNone site file files files' ends.ReadFault = Rose files files'
JudgesNone site file files files' ends.Memory = Unit {0}
JudgesNone site file files files' _ = ⊥

-- The run that the record's file spells, where it is told, was judged, and the verdict printed, or a front of it.
pub record Audited (site file : Option (List ℕ)) (held held' : Option (List ℕ)) (verdict : Verdict) (All : Type 0) : Type 0 where
  pub run : Recorded
  pub recorded : IfSome file (IsRecordOf run)
  pub judges : Judges site run verdict
  pub prints : Prints held held' (verdict_text verdict) All

-- no verdict was printed
abbrev pub IsUntold : AuditEnd → Type 0
IsUntold (ends.Told verdict) = ⊥
IsUntold ends.WriteFault = ⊥
IsUntold _ = Unit {0}

-- how the files and what was printed go with the end
abbrev pub AuditComes : (site file held held' : Option (List ℕ)) → AuditEnd → Type 0
AuditComes site file held held' (ends.Told verdict) = Audited site file held held' verdict (Unit {0})
AuditComes site file held held' ends.WriteFault = (verdict : Verdict) × Audited site file held held' verdict ⊥
AuditComes site file held held' (ends.NoRecord place) = IfSome file (IsNoRecord place) × (held' ≡ held)
AuditComes site file held held' (ends.NoSite fault) = ((run : Recorded) × IfSome file (IsRecordOf run) × IsRefusedAs site run.boot fault) × (held' ≡ held)
AuditComes site file held held' ends.ReadFault = held' ≡ held
AuditComes site file held held' ends.Memory = held' ≡ held

-- A fault has its cause in a count.
pub record AuditRose (end : AuditEnd) (files files' writes writes' : ℕ) : Type 0 where
  pub read : end ≡ ends.ReadFault → Rose files files'
  pub write : end ≡ ends.WriteFault → Rose writes writes'

-- The audit came to some end, which is the exit: `Illegal` exactly where the verdict is. Where the record's file is the record
-- of a run, the site's file opens a site and no count rose, a verdict is told, or memory was wanting. The end is told on `errors`.
pub record AuditRan (site file : Option (List ℕ)) (files files' : ℕ) (held held' : Option (List ℕ)) (writes writes' : ℕ) (refused : Option RefusedFile) (e e' : ErrorsTold) (exit : Exit) : Type 0 where
  pub end : AuditEnd
  pub exit_is : exit ≡ exit_of_audit end
  pub comes : AuditComes site file held held' end
  pub read : exit ≡ exits.ReadFault → Rose files files'
  pub write : exit ≡ exits.WriteFault → Rose writes writes'
  pub complete : IfSome file (λ whole. IfSome site (λ other. (run : Recorded) → IsRecordOf run whole → OpensSite (site_bytes other)
      → ¬ (Rose files files') → ¬ (Rose writes writes')
      → (exit ≡ exits.Ok) ⊎ ((exit ≡ exits.Illegal) ⊎ (exit ≡ exits.Memory))))
  pub says : Tells e e' exit (audit_words refused end)
