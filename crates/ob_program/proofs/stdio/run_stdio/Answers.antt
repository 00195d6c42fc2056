use Rattle.std.proofs.Common.{◌≡◌, Option, subst}
use Rattle.std.specs.Prelude.{IfOk}
use Rattle.ob_io.specs.declared.cause.RefusedFile.{RefusedFile}
use Rattle.ob_program.specs.Words.{stdio_words}
use Rattle.ob_program.proofs.StdioLemmas.{stdio_ran}
use Rattle.ob_program.proofs.stdio.run_stdio.Goals as goal

pub returns-clause-ran : goal.returns-clause-ran
returns-clause-ran g c =
    stdio_ran _ _ _ _ _ _ _ _ _ _ _ _ _ c.stdio-end.result c.exit-exit.result c.exit-exit.ensures c.opened_is_not_refused.ensures c.stdio-end.ensures.comes c.stdio-end.ensures.cause c.stdio-end.ensures.whole
    (c.tell.ensures _ (subst (λ (r : Option RefusedFile). IfOk c.words-words.result (λ bytes. bytes.items ≡ stdio_words r c.stdio-end.result))
    c.last_refused.ensures c.words-words.ensures))
