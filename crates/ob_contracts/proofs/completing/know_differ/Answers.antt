use Rattle.std.proofs.Common.{subst}
use Rattle.ob_object.specs.Object.{Object, children}
use Rattle.ob_object.specs.WellFormed.{NamesDiffer}
use Rattle.ob_contracts.specs.Shown.{finish}
use Rattle.ob_contracts.proofs.completing.know_differ.Goals as goal

pub returns : goal.returns
returns c =
    subst (λ (o : Object). NamesDiffer (children (finish c.args.setting.defaults o))) c.uncounted-view.ensures.result_of (c.know_names.ensures.differ c.args.setting.defaults)
