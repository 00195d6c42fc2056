use Rattle.std.proofs.Common.{◌≡◌, Option}
use Rattle.std.specs.Prelude.{IfOk}
use Rattle.ob_io.specs.declared.cause.Cause.{Cause}
use Rattle.ob_io.specs.declared.cause.RefusedFile.{RefusedFile}
use Rattle.ob_program.proofs.TellingLemmas.{of_three}
use Rattle.ob_program.specs.Words.{keep_words}
use Rattle.ob_program.proofs.KeepLemmas.{keep_ran}
use Rattle.ob_program.proofs.keep.run_keep.Goals as goal

pub returns-clause-ran : goal.returns-clause-ran
returns-clause-ran g c = keep_ran _ _ _ _ _ _ _ _ _ _ _ _ _ _ _ _ _ _ _ _ _ _ _ _ c.opened_is_not_refused.ensures _ _ _ _ _ _ _ _ _ _ _ _ _ c.keep_site-end.result c.exit-exit.result c.exit-exit.ensures c.keep_site-end.ensures.comes
    (c.tell.ensures _ (of_three (λ (r : Option RefusedFile) (p d : Cause). IfOk c.words-words.result (λ bytes. bytes.items ≡ keep_words r p d c.keep_site-end.result)) _ _ _ _ _ _
    c.last_refused.ensures c.last_cause.ensures c.last_cause-2.ensures c.words-words.ensures))
