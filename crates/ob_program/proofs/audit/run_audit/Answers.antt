use Rattle.std.proofs.Common.{◌≡◌, Option, subst}
use Rattle.std.specs.Prelude.{IfOk}
use Rattle.ob_io.specs.declared.cause.RefusedFile.{RefusedFile}
use Rattle.ob_program.specs.Words.{audit_words}
use Rattle.ob_program.proofs.AuditLemmas.{audit_ran}
use Rattle.ob_program.proofs.audit.run_audit.Goals as goal

pub returns : goal.returns
returns g c = record {
  ran = audit_ran c.spelled_is_unbroken.ensures c.opened_is_not_refused.ensures _ _ _ _ _ _ _ _ _ _ _ c.audit_file-end.result c.exit-exit.result c.exit-exit.ensures
      c.audit_file-end.ensures.comes c.audit_file-end.ensures.rose (c.tell.ensures _ (subst (λ (r : Option RefusedFile). IfOk c.words-words.result (λ bytes. bytes.items ≡ audit_words r c.audit_file-end.result))
      c.last_refused.ensures c.words-words.ensures));
}
