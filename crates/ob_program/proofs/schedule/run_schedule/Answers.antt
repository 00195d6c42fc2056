use Rattle.std.proofs.Common.{◌≡◌, Option, subst}
use Rattle.std.specs.Prelude.{IfOk}
use Rattle.ob_io.specs.declared.cause.RefusedFile.{RefusedFile}
use Rattle.ob_program.specs.Words.{form_words}
use Rattle.ob_program.proofs.ScheduleLemmas.{schedule_ran}
use Rattle.ob_program.proofs.schedule.run_schedule.Goals as goal

pub returns-clause-ran : goal.returns-clause-ran
returns-clause-ran g c =
    schedule_ran c.only.ensures c.one_verdict.ensures c.opened_is_not_refused.ensures _ _ _ _ _ _ _ _ _ _ _ _ _ c.serve_file-end.result c.exit-exit.result c.exit-exit.ensures c.serve_file-end.ensures.comes c.serve_file-end.ensures.cause
    c.serve_file-end.ensures.whole (c.tell.ensures _ (subst (λ (r : Option RefusedFile). IfOk c.words-words.result (λ bytes. bytes.items ≡ form_words r c.serve_file-end.result))
    c.last_refused.ensures c.words-words.ensures))
