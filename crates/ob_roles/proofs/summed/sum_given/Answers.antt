use Rattle.std.proofs.Common.{Bool, true≢false, sym, ap, ◌∙◌}
use Rattle.std.specs.List.{list_any}
use Rattle.ob_object.specs.Object.{Object, children}
use Rattle.ob_roles.specs.Summed.{takes_given}
use Rattle.ob_roles.proofs.InPlace.{any_at}
use Rattle.ob_roles.proofs.summed.sum_given.Goals as goal

pub returns-then-not-any_takes : goal.returns-then-not-any_takes
returns-then-not-any_takes c = λ lib i x holds at takes.
    let P : Object → Bool = λ o. takes_given o.head in
    absurd (true≢false (sym (any_at P (children c.args.object.now) i x at takes) ∙ ap (list_any P) (sym c.children.ensures.value) ∙ sym c.any_takes.ensures ∙ c.if-not-any_takes.true))
