use Rattle.std.proofs.Common.{rules, refl}
use Rattle.ob_command.specs.Lines.{slip_words}
use Rattle.ob_command.specs.Named.{slip_of}
use Rattle.ob_program.proofs.ApartLemmas.{all_apart}
use Rattle.ob_program.proofs.CauseLemmas.{stdio_cause, audit_cause}
use Rattle.ob_program.proofs.program.run.Goals as goal

pub returns-in-Ok-Err-clause-told : goal.returns-in-Ok-Err-clause-told
returns-in-Ok-Err-clause-told g c = (slip_words (slip_of c.in-Ok-Err.slip), c.tell.ensures (slip_words (slip_of c.in-Ok-Err.slip)) c.words.ensures)

pub returns-in-Err-clause-apart : goal.returns-in-Err-clause-apart
returns-in-Err-clause-apart g c = all_apart _ _ _ _ _ _ _ _ refl refl refl refl refl refl refl

pub returns-in-Stdio-clause-cause : goal.returns-in-Stdio-clause-cause
returns-in-Stdio-clause-cause g c = search (rules, stdio_cause, c.run_stdio.ensures.ran)

pub returns-in-Audit-clause-cause : goal.returns-in-Audit-clause-cause
returns-in-Audit-clause-cause g c = search (rules, audit_cause, c.run_audit.ensures.ran)
