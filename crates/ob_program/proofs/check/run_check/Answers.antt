use Rattle.std.proofs.Common.{◌≡◌, Option, subst, sym, ◌∙◌}
use Rattle.std.specs.Prelude.{IfOk}
use Rattle.ob_io.specs.declared.cause.RefusedFile.{RefusedFile}
use Rattle.ob_program.specs.Words.{check_words}
use Rattle.ob_program.proofs.CheckLemmas.{check_ran, not_printed}
use Rattle.ob_program.proofs.check.run_check.Goals as goal

pub returns-clause-ran : goal.returns-clause-ran
returns-clause-ran g c =
    check_ran c.one_verdict.ensures c.spelled.ensures _ _ _ _ _ _ _ _ _ _ c.check-end.result c.exit-exit.result c.exit-exit.ensures
    c.check-end.ensures.checks c.check-end.ensures.read_fault c.check-end.ensures.write_fault c.check-end.ensures.judged
    (c.tell.ensures _ (subst (λ (r : Option RefusedFile). IfOk c.words-words.result (λ bytes. bytes.items ≡ check_words r c.check-end.result))
    c.last_refused.ensures c.words-words.ensures))

pub returns-clause-refused : goal.returns-clause-refused
returns-clause-refused g c = λ is.
    let not = not_printed c.check-end.result (sym c.exit-exit.ensures ∙ is) in
    c.check-end.ensures.unwritten not.0 not.1
