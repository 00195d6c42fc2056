use Rattle.std.proofs.Common.{Option, ◌≡◌, sym, ap, ◌∙◌, subst, map, option_map}
use Rattle.std.specs.Prelude.{IfOk}
use Rattle.ob_command.specs.Named.{asked_of, form_of, slip_of}
use Rattle.ob_command.specs.Slips.{Slip}
use Rattle.ob_command.proofs.ValueLemmas.{repeated}
use Rattle.ob_command.proofs.ArgumentLemmas.{twice_told, fit_told, option_reads, err_then}
use Rattle.ob_command.proofs.slip.argument_slip.Goals as goal

pub returns-in-Some-clause-value : goal.returns-in-Some-clause-value
returns-in-Some-clause-value c = λ before parts.
    rw c.in-Set.is
    (twice_told (form_of c.args.here.form) c.args.here.url.now before c.in-Set.name.now c.in-Set.value.now _ (asked_of c.in-Some.field-0)
    (sym c.asked_as.ensures ∙ ap (λ o. option_map asked_of o) c.in-Some.is)
    (sym (repeated c.in-Set.name.now _ before _ parts) ∙ sym c.is_before.ensures ∙ c.if-is_before.true))

pub returns-in-Some-2-clause-value : goal.returns-in-Some-2-clause-value
returns-in-Some-2-clause-value c = λ before parts.
    rw c.in-Set.is
    (subst (λ (f : Option Slip). IfOk c.fit_slip-in-Some-2.result (λ slip. option_map slip_of slip ≡ f))
    (fit_told (form_of c.args.here.form) c.args.here.url.now before c.in-Set.name.now c.in-Set.value.now _ (asked_of c.in-Some.field-0)
    (sym c.asked_as.ensures ∙ ap (λ o. option_map asked_of o) c.in-Some.is)
    (sym (repeated c.in-Set.name.now _ before _ parts) ∙ sym c.is_before.ensures ∙ c.if-is_before.false))
    c.fit_slip-in-Some-2.ensures.value)

pub returns-in-Some-2-clause-memory : goal.returns-in-Some-2-clause-memory
returns-in-Some-2-clause-memory c =
    err_then c.fit_slip-in-Some-2.result c.fit_slip-in-Some-2.ensures.memory
    (λ x takes. option_reads (form_of c.args.here.form) (map asked_of c.args.here.wanted.now) c.in-Set.name.now (asked_of c.in-Some.field-0) (sym c.asked_as.ensures ∙ ap (λ o. option_map asked_of o) c.in-Some.is) takes)
