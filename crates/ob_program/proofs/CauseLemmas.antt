-- The cause of an exit, by the end of the command.
use Rattle.std.proofs.Common.{◌≡◌, ◌⊎◌, inl, refl, sym, subst, ◌∙◌, ℕ, List, Option}
use Rattle.ob_command.specs.declared.server.Output.{Output}
use Rattle.ob_io.specs.Faults.{Rose}
use Rattle.ob_io.specs.declared.cause.RefusedFile.{RefusedFile}
use Rattle.ob_record.specs.declared.auditing.Verdict.TheVariants.{Legal, Illegal}
use Rattle.ob_server.specs.declared.end.LinkEnd.TheVariants as ends
use Rattle.ob_program.specs.Audit.{exit_of_audit, AuditRan}
use Rattle.ob_program.specs.Causes.{CauseOf}
use Rattle.ob_program.specs.Outside.{Streams, ClockTold, PortTold, Dialled}
use Rattle.ob_program.specs.Stdio.{exit_of, StdioRan}
use Rattle.ob_program.specs.Telling.{ErrorsTold}
use Rattle.ob_program.specs.declared.audit.AuditEnd.{AuditEnd}
use Rattle.ob_program.specs.declared.audit.AuditEnd.TheVariants as audits
use Rattle.ob_program.specs.declared.exit.Exit.{Exit}
use Rattle.ob_program.specs.declared.exit.Exit.TheVariants as exits
use Rattle.ob_program.specs.declared.stdio.StdioEnd.{StdioEnd}
use Rattle.ob_program.specs.declared.stdio.StdioEnd.TheVariants.{Served, Refused, ReadFault, ClockFault, Memory}

module _ (files files' : ℕ) (s s' : Streams) (p p' : PortTold) (d d' : Dialled) (t t' : ClockTold) (records records' : ℕ) where
  by_stdio_end : (end : StdioEnd) → (exit_of end ≡ exits.ReadFault → Rose files files' ⊎ Rose s.reads s'.reads) → (exit_of end ≡ exits.WriteFault → Rose s.writes s'.writes)
      → (exit_of end ≡ exits.ClockFault → Rose t.faults t'.faults) → CauseOf (exit_of end) files files' s s' p p' d d' t t' records records'
  by_stdio_end (Served ends.Closed) read write clock = tt
  by_stdio_end (Served ends.Asked) read write clock = tt
  by_stdio_end (Served ends.Truncated) read write clock = tt
  by_stdio_end (Served (ends.BadFrame fault at)) read write clock = tt
  by_stdio_end (Served ends.ReadFault) read write clock = read refl
  by_stdio_end (Served ends.WriteFault) read write clock = write refl
  by_stdio_end (Served ends.ClockFault) read write clock = clock refl
  by_stdio_end (Served ends.Budget) read write clock = tt
  by_stdio_end (Served ends.Memory) read write clock = tt
  by_stdio_end (Refused fault) read write clock = tt
  by_stdio_end ReadFault read write clock = read refl
  by_stdio_end ClockFault read write clock = clock refl
  by_stdio_end Memory read write clock = tt

  by_audit_end : (end : AuditEnd) → (exit_of_audit end ≡ exits.ReadFault → Rose files files' ⊎ Rose s.reads s'.reads) → (exit_of_audit end ≡ exits.WriteFault → Rose s.writes s'.writes)
      → CauseOf (exit_of_audit end) files files' s s' p p' d d' t t' records records'
  by_audit_end (audits.Told (Legal entries)) read write = tt
  by_audit_end (audits.Told (Illegal entry expected)) read write = tt
  by_audit_end (audits.NoRecord place) read write = tt
  by_audit_end (audits.NoSite fault) read write = tt
  by_audit_end audits.ReadFault read write = read refl
  by_audit_end audits.WriteFault read write = write refl
  by_audit_end audits.Memory read write = tt

  pub stdio_cause : (output : Output) (file : Option (List ℕ)) (at : Option ℕ) (tick : ℕ) (refused : Option RefusedFile) (e e' : ErrorsTold) (exit : Exit)
      → StdioRan output file at tick files files' s s' t t' refused e e' exit → CauseOf exit files files' s s' p p' d d' t t' records records'
  stdio_cause output file at tick refused e e' exit ran =
      subst (λ (x : Exit). CauseOf x files files' s s' p p' d d' t t' records records') (sym ran.exit_is)
      (by_stdio_end ran.end (λ is_read. ran.read (ran.exit_is ∙ is_read)) (λ is_write. ran.write (ran.exit_is ∙ is_write)) (λ is_clock. ran.clock (ran.exit_is ∙ is_clock)))

  pub audit_cause : (site file held held' : Option (List ℕ)) (refused : Option RefusedFile) (e e' : ErrorsTold) (exit : Exit)
      → AuditRan site file files files' held held' s.writes s'.writes refused e e' exit → CauseOf exit files files' s s' p p' d d' t t' records records'
  audit_cause site file held held' refused e e' exit ran =
      subst (λ (x : Exit). CauseOf x files files' s s' p p' d d' t t' records records') (sym ran.exit_is)
      (by_audit_end ran.end (λ is_read. inl (ran.read (ran.exit_is ∙ is_read))) (λ is_write. ran.write (ran.exit_is ∙ is_write)))
