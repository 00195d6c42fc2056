use Rattle.std.proofs.Common.{◌∙◌, subst}
use Rattle.std.specs.Prelude.{Ok}
use Rattle.ob_record.specs.Legal.{Audits}
use Rattle.ob_record.specs.declared.auditing.Verdict.{Verdict}
use Rattle.ob_kept.specs.Redone.{redone}
use Rattle.ob_kept.proofs.redone.redo.Goals as goal

pub returns-in-Ok-Legal-clause-done : goal.returns-in-Ok-Legal-clause-done
returns-in-Ok-Legal-clause-done c = λ recorded records.
    let is = subst (λ (v : Verdict). Audits redone c.args.site c.audit.new.machine recorded.entries (Ok v)) c.in-Ok-Legal.field-0-is (c.in-Ok-Legal.ensures recorded records) in
    (is.0, c.into_site.ensures ∙ is.2)

pub returns-in-Ok-Illegal-clause-undone : goal.returns-in-Ok-Illegal-clause-undone
returns-in-Ok-Illegal-clause-undone c = λ recorded records.
    let is = subst (λ (v : Verdict). Audits redone c.args.site c.audit.new.machine recorded.entries (Ok v)) c.in-Ok-Illegal.field-0-is (c.in-Ok-Illegal.ensures recorded records) in
    (c.audit.new.machine, _, is)
