use Rattle.std.proofs.Common.{◌≡◌, Option}
use Rattle.std.specs.Prelude.{IfOk}
use Rattle.ob_io.specs.declared.cause.Cause.{Cause}
use Rattle.ob_io.specs.declared.cause.RefusedFile.{RefusedFile}
use Rattle.ob_program.proofs.TellingLemmas.{of_two}
use Rattle.ob_program.specs.Words.{compact_words}
use Rattle.ob_program.proofs.CompactLemmas.{compact_ran}
use Rattle.ob_program.proofs.compact.run_compact.Goals as goal

pub returns-clause-ran : goal.returns-clause-ran
returns-clause-ran g c =
    let d = g.V.D.Device in
    compact_ran d.is_told d.seen d.may_leave d.moment d.left_since d.faults _ _ _ _ _ _ _ c.opened_is_not_refused.ensures _ _ _ _ _ _ _ _ c.compact_site-end.result c.exit-exit.result c.exit-exit.ensures
    c.compact_site-end.ensures.comes c.compact_site-end.ensures.rose (c.tell.ensures _ (of_two (λ (r : Option RefusedFile) (p : Cause). IfOk c.words-words.result (λ bytes. bytes.items ≡ compact_words r p c.compact_site-end.result)) _ _ _ _
    c.last_refused.ensures c.last_cause.ensures c.words-words.ensures))
