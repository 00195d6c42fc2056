use Rattle.std.proofs.Common.{Option, Some, sym, ap, ◌∙◌, [], ◌∷◌}
use Rattle.std.specs.Option.{option_copied}
use Rattle.ob_object.specs.Object.{Object}
use Rattle.ob_contracts.specs.Inherit.{overridden, present}
use Rattle.ob_contracts.proofs.Taught.{one_source}
use Rattle.ob_contracts.proofs.lookup.Sources.over_child.Goals as goal

pub returns-in-Some : goal.returns-in-Some
returns-in-Some c =
    c.child.ensures
    ∙ sym (one_source c.args.name.now c.in-Some.over.now)
    ∙ sym (ap (λ (o : Option Object). overridden (Some c.args.name.now) (present (o ∷ []))) (ap option_copied c.in-Some.is))

pub returns-in-None : goal.returns-in-None
returns-in-None c = sym (ap (λ (o : Option Object). overridden (Some c.args.name.now) (present (o ∷ []))) (ap option_copied c.in-None.is))
