use Rattle.std.proofs.Common.{refl}
use Rattle.ob_contracts.specs.Inherit.{bare}
use Rattle.ob_contracts.specs.Shown.{finish}
use Rattle.ob_contracts.proofs.Becoming.{copies_more, copies_all}
use Rattle.ob_contracts.proofs.completing.copies.Goals as goal

pub loop-object-preserved : goal.loop-object-preserved
loop-object-preserved c =
    copies_more (λ o. finish c.args.defaults (bare o)) c.args.objects.now c.loop-object.object-index c.object-item.result _ _ _ c.loop-object-test.true c.object-item.is c.in_ok-push.ensures.items c.in_ok-copy_bare.ensures c.loop-object.invariant

pub returns : goal.returns
returns c =
    copies_all (λ o. finish c.args.defaults (bare o)) c.args.objects.now c.args.objects.now c.loop-object.object-index _ refl c.loop-object-test.false c.loop-object.invariant
