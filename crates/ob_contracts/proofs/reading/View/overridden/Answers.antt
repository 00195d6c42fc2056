use Rattle.std.proofs.Common.{ap, ◌∙◌}
use Rattle.ob_contracts.specs.Places.{overridden_in}
use Rattle.ob_contracts.proofs.reading.View.overridden.Goals as goal

pub returns : goal.returns
returns c =
    c.overridden.ensures
    ∙ ap (overridden_in c.looked_up.result) c.name.ensures
    ∙ c.looked_up.ensures.over c.args.child.now.head.name
