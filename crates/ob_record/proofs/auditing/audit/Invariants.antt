use Rattle.std.proofs.Common.{◌≡◌, take, drop}
use Rattle.std.specs.List.{flat_map}
use Rattle.ob_record.specs.Runs.{Recorded, Records, entry_text}
use Rattle.ob_record.proofs.AuditLaws.{Audited}
use Rattle.ob_record.proofs.auditing.audit.Given as goal

abbrev pub invariant-entries : goal.invariant-entries
invariant-entries g l = (run : Recorded) → Records l.run run
    → (l.rest ≡ flat_map entry_text (drop l.place run.entries)) × Audited g.M.Machine.act l.fn.machine l.machine (take l.place run.entries)
