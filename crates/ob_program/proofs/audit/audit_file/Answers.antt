use Rattle.std.proofs.Common.{◌≡◌, ◌∙◌, List, ℕ, subst, rules}
use Rattle.ob_io.specs.Told.{Gains, IsFront}
use Rattle.ob_program.specs.Audit.{verdict_text}
use Rattle.ob_program.proofs.AuditLemmas.{none_comes, none_rose, printed, printed_front}
use Rattle.ob_program.proofs.FileLemmas.{on_ok}
use Rattle.ob_program.proofs.audit.audit_file.Goals as goal

pub returns-in-Err-clause-comes : goal.returns-in-Err-clause-comes
returns-in-Err-clause-comes g c = none_comes _ _ (g.K.Sink.held c.args.sink.now) (g.F.Files.faults c.args.files.now) (g.F.Files.faults c.judge_file.new.files) c.in-Err.end c.in-Err.ensures.none

pub returns-in-Err-clause-rose : goal.returns-in-Err-clause-rose
returns-in-Err-clause-rose g c = none_rose _ _ _ _ _ c.in-Err.end c.in-Err.ensures.none

pub returns-in-Ok-write_all-clause-comes : goal.returns-in-Ok-write_all-clause-comes
returns-in-Ok-write_all-clause-comes g c =
    let sends = c.write_all.ensures.sends in
    let judged = c.in-Ok.ensures.judged in
    let whole : sends.sent ≡ verdict_text c.in-Ok.verdict = on_ok c.write_all.result c.in-Ok-write_all.field-0 _ c.in-Ok-write_all.is sends.whole ∙ c.deref.ensures.value ∙ c.in-Ok-verdict_line.ensures in
    printed _ _ (g.K.Sink.held c.args.sink.now) (g.K.Sink.held c.write_all.new.sink) judged.0 c.in-Ok.verdict sends.sent judged.1 judged.2 whole sends.gained
