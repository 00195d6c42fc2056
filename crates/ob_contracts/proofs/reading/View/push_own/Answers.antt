use Rattle.std.proofs.Common.{refl, arith}
use Rattle.ob_object.specs.Object.{children}
use Rattle.ob_contracts.specs.Shown.{own_child_of}
use Rattle.ob_contracts.proofs.Views.{own_more, own_all, none_put}
use Rattle.ob_contracts.proofs.reading.View.push_own.Goals as goal

pub returns-then-is_empty : goal.returns-then-is_empty
returns-then-is_empty c =
    own_all c.args.self.now _ (children c.args.self.now.own.now) 0 _ refl (omega (arith, c.is_empty.ensures.0 c.if-is_empty.true)) (none_put _ _ (own_child_of c.args.self.now) refl)

pub loop-own-init : goal.loop-own-init
loop-own-init c = none_put _ _ (own_child_of c.args.self.now) refl

pub loop-own-preserved : goal.loop-own-preserved
loop-own-preserved c =
    own_more c.args.self.now _ _ _ _ c.own-item.result _ _ c.loop-own-test.true c.own-item.is c.in_ok-push.ensures.items c.own_child_with.ensures c.loop-own.invariant

pub returns : goal.returns
returns c = own_all c.args.self.now _ _ _ _ c.children-owned.ensures.value c.loop-own-test.false c.loop-own.invariant
