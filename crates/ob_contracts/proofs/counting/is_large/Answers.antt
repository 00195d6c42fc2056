use Rattle.std.proofs.Common.{◌-◌, None, ap, ◌∙◌}
use Rattle.ob_object.specs.Object.{Object, parts}
use Rattle.ob_contracts.specs.Inherit.{result_of}
use Rattle.ob_contracts.proofs.UpTo.{large_test}
use Rattle.ob_contracts.proofs.counting.is_large.Goals as goal

pub returns-clause-large : goal.returns-clause-large
returns-clause-large g c =
    large_test c.in_ok-left.left c.saturating_sub-parts.result (parts (result_of c.args.library.now c.args.contract.now None None))
    (c.in_ok-left.ensures ∙ ap (λ (o : Object). 513 - parts o) c.new-view.ensures.result_of) c.saturating_sub-parts.ensures
