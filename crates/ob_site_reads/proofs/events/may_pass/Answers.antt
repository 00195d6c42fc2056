use Rattle.std.proofs.Common.{List, Some, sym, ap, ◌∙◌, arith}
use Rattle.std.specs.Prelude.{slice_get}
use Rattle.std.proofs.lemmas.Option.{slice_get-get_or}
use Rattle.ob_alarms.specs.declared.alarm.Event.{Event}
use Rattle.ob_site_reads.proofs.Raised.{raised_late}
use Rattle.ob_site_reads.proofs.events.may_pass.Goals as goal

pub returns-in-Some : goal.returns-in-Some
returns-in-Some c =
    let found = c.in-Some.ensures.lookup in
    raised_late c.args.bounds.now c.args.alarms.now c.args.event c.in-Some.told.now c.was_raised_within.result
    (ap (λ (l : List Event). slice_get l c.args.event) (sym c.events.ensures)
    ∙ slice_get-get_or c.events.result.now c.args.event c.in-Some.told.now (omega arith)
    ∙ ap (λ (e : Event). Some e) (sym found.1))
    c.was_raised_within.ensures
