use Rattle.std.proofs.Common.{ap, ◌∙◌, refl}
use Rattle.ob_contracts.specs.Found.{lent}
use Rattle.ob_contracts.specs.Inherit.{bare}
use Rattle.ob_contracts.proofs.Views.{taken_more, taken_all, none_put}
use Rattle.ob_contracts.proofs.reading.View.push_inherited.Goals as goal

pub loop-taken-init : goal.loop-taken-init
loop-taken-init c = none_put _ _ bare refl

pub loop-taken-preserved : goal.loop-taken-preserved
loop-taken-preserved c =
    taken_more _ _ _ _ c.taken-item.result _ _ c.loop-taken-test.true c.taken-item.is c.in_ok-push.ensures.items c.inherited_child.ensures c.loop-taken.invariant

pub returns : goal.returns
returns c =
    taken_all _ _ _ _ _ (ap lent c.deref-taken-items.ensures.value ∙ c.in_ok-inherited.ensures) c.loop-taken-test.false c.loop-taken.invariant
