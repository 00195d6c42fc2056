use Rattle.std.proofs.Common.{◌≡◌, Option, subst}
use Rattle.std.specs.Prelude.{IfOk}
use Rattle.ob_io.specs.declared.cause.RefusedFile.{RefusedFile}
use Rattle.ob_program.specs.Words.{form_words}
use Rattle.ob_program.proofs.SuperLemmas.{super_ran}
use Rattle.ob_program.proofs.supervise.run_super.Goals as goal

pub returns-clause-ran : goal.returns-clause-ran
returns-clause-ran g c =
    super_ran c.only.ensures c.one_verdict.ensures _ _ _ _ _ _ _ _ _ _ _ c.serve_tree-end.result c.exit-exit.result c.exit-exit.ensures
    c.serve_tree-end.ensures.comes c.serve_tree-end.ensures.cause c.serve_tree-end.ensures.whole (c.tell.ensures _ (subst (λ (r : Option RefusedFile). IfOk c.words-words.result (λ bytes. bytes.items ≡ form_words r c.serve_tree-end.result))
    c.last_refused.ensures c.words-words.ensures))
