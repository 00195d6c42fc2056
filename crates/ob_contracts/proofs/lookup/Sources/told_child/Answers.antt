use Rattle.std.proofs.Common.{Option, Some, ap, ◌∙◌, [], ◌∷◌}
use Rattle.std.specs.Option.{option_copied}
use Rattle.ob_object.specs.Object.{Object}
use Rattle.ob_contracts.specs.Inherit.{or_else, overridden, present}
use Rattle.ob_contracts.proofs.lookup.Sources.told_child.Goals as goal

pub returns-in-Some : goal.returns-in-Some
returns-in-Some c =
    ap (λ (o : Option Object). or_else o (overridden (Some c.args.name.now) (present (option_copied c.args.self.now.over ∷ [])))) c.in-Some.ensures

pub returns-in-None : goal.returns-in-None
returns-in-None c =
    c.over_child.ensures
    ∙ ap (λ (o : Option Object). or_else o (overridden (Some c.args.name.now) (present (option_copied c.args.self.now.over ∷ [])))) c.in-None.ensures
