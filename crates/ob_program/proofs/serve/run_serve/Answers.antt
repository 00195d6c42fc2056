use Rattle.std.proofs.Common.{◌≡◌, Option}
use Rattle.std.specs.Prelude.{IfOk}
use Rattle.ob_io.specs.declared.cause.Cause.{Cause}
use Rattle.ob_io.specs.declared.cause.RefusedFile.{RefusedFile}
use Rattle.ob_program.proofs.TellingLemmas.{of_two}
use Rattle.ob_program.specs.Words.{serve_words}
use Rattle.ob_program.proofs.ServeLemmas.{serve_ran}
use Rattle.ob_program.proofs.serve.run_serve.Goals as goal

pub returns-clause-ran : goal.returns-clause-ran
returns-clause-ran g c = serve_ran _ _ _ _ _ _ _ _ _ _ _ _ _ _ _ c.opened_is_not_refused.ensures _ _ _ _ _ _ _ _ _ _ _ _ c.serve_file-end.result c.exit-exit.result c.exit-exit.ensures c.serve_file-end.ensures.comes
    (c.tell.ensures _ (of_two (λ (r : Option RefusedFile) (p : Cause). IfOk c.words-words.result (λ bytes. bytes.items ≡ serve_words r p c.serve_file-end.result)) _ _ _ _
    c.last_refused.ensures c.last_cause.ensures c.words-words.ensures))
