use Rattle.ob_object.specs.Object.{children}
use Rattle.ob_roles.proofs.Named.{more_first, more_one, more_all}
use Rattle.ob_roles.proofs.summed.put_missing.Goals as goal

pub loop-child-init : goal.loop-child-init
loop-child-init c = λ has. (more_first c.args.object.now c.children-child-items.result.now, has)

pub loop-child-preserved : goal.loop-child-preserved
loop-child-preserved c = λ has.
    let kept = c.loop-child.invariant has in
    let put = c.in_ok-put_named.ensures kept.1 in (
      more_one c.args.object.now c.loop-child.object c.put_named.new.object c.child-item.result c.children-child-items.result.now c.loop-child.child-index
          c.children-child-items.ensures.names_differ c.loop-child-test.true c.child-item.is put.0 kept.0,
      put.1,
    )

pub returns : goal.returns
returns c = λ has.
    let kept = c.loop-child.invariant has in (
      more_all c.args.object.now c.loop-child.object c.children-child-items.result.now (children c.args.source.now) c.loop-child.child-index c.loop-child-test.false c.children-child-items.ensures.value kept.0,
      kept.1,
    )
