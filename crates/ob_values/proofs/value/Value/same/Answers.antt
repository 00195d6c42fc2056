use Rattle.std.proofs.Common.{◌≡◌, ap, sym, ◌∙◌}
use Rattle.ob_times.proofs.FormLemmas.{dates_decide}
use Rattle.ob_values.specs.Times.{Date as Plain}
use Rattle.ob_values.specs.declared.value.Value.{Value}
use Rattle.ob_values.specs.declared.value.Value.TheVariants.{Date}
use Rattle.ob_values.proofs.value.Value.same.Goals as goal

pub returns-in-Date-other : goal.returns-in-Date-other
returns-in-Date-other c =
    let decides = dates_decide c.in-Date.own c.in-Date-other.others in
    let tells = c.eq-in-Date-other.ensures in (
      (λ equal. c.in-Date.is ∙ ap (λ (d : Plain). Date d) (decides.0 (sym tells ∙ equal)) ∙ sym c.in-Date-other.is),
      (λ same.
          let dates : ◌≡◌ {A = Value} (Date c.in-Date.own) (Date c.in-Date-other.others) = sym c.in-Date.is ∙ same ∙ c.in-Date-other.is in
          let plain : c.in-Date.own ≡ c.in-Date-other.others = cc in
          tells ∙ decides.1 plain),
    )
