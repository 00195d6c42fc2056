use Rattle.std.proofs.Common.{◌≡◌, ◌∙◌, List, ℕ, subst}
use Rattle.ob_io.specs.Told.{Gains, IsFront}
use Rattle.ob_program.specs.Check.{printed}
use Rattle.ob_program.proofs.FileLemmas.{on_ok}
use Rattle.ob_program.proofs.CheckLemmas.{check_printed, check_broken}
use Rattle.ob_program.proofs.check.check.Goals as goal

pub returns-in-Ok-write_all-clause-checks : goal.returns-in-Ok-write_all-clause-checks
returns-in-Ok-write_all-clause-checks g c =
    let sends = c.write_all.ensures.sends in
    let whole : sends.sent ≡ printed c.in-Ok.doc = on_ok c.write_all.result c.in-Ok-write_all.field-0 _ c.in-Ok-write_all.is sends.whole ∙ c.deref.ensures.value ∙ c.in-Ok-print.ensures in
    check_printed _ _ _ c.in-Ok.doc c.in-Ok.ensures.reads (subst (λ (t : List ℕ). Gains (g.K.Sink.held c.args.sink.now) t (g.K.Sink.held c.write_all.new.sink)) whole sends.gained)

pub returns-clause-checks : goal.returns-clause-checks
returns-clause-checks g c =
    let sends = c.write_all.ensures.sends in
    let text : c.deref.result.now ≡ printed c.in-Ok.doc = c.deref.ensures.value ∙ c.in-Ok-print.ensures in
    check_broken _ _ _ c.in-Ok.doc sends.sent c.in-Ok.ensures.reads (subst (λ (t : List ℕ). IsFront sends.sent t) text sends.front) sends.gained
