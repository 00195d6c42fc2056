use Rattle.std.proofs.Common.{sym, ap, ◌∙◌}
use Rattle.std.specs.Prelude.{slice_get}
use Rattle.ob_plain_state.proofs.Rules.{needs_of, needs-numbered}
use Rattle.ob_site_reads.proofs.places.needs_ack.Goals as goal

pub returns-in-Some : goal.returns-in-Some
returns-in-Some c =
    ap needs_of (c.in-Some.ensures ∙ ap (λ rs. slice_get rs c.args.alarm.now.rule) c.as_slice.ensures)
    ∙ sym (needs-numbered c.args.plan.now.rules 0 c.args.alarm.now.rule)

pub returns-in-None : goal.returns-in-None
returns-in-None c =
    ap needs_of (c.in-None.ensures ∙ ap (λ rs. slice_get rs c.args.alarm.now.rule) c.as_slice.ensures)
    ∙ sym (needs-numbered c.args.plan.now.rules 0 c.args.alarm.now.rule)
