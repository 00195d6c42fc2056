use Rattle.std.proofs.Common.{subst, ◌∙◌, ◌+◌, take, List, Bool, sym}
use Rattle.std.proofs.lemmas.List.{take_all}
use Rattle.ob_object.specs.Object.{Object}
use Rattle.ob_contracts.specs.Telling.{ArePut}
use Rattle.ob_contracts.proofs.Heads.{put_begun, put_more}
use Rattle.ob_contracts.proofs.fewer.put_names.Goals as goal

pub loop-child-init : goal.loop-child-init
loop-child-init c = put_begun c.args.known.now c.children-child-items.result.now

pub loop-child-preserved : goal.loop-child-preserved
loop-child-preserved c =
    subst (λ (b : Bool). ArePut c.args.known.now c.put_name.new.known (take (c.loop-child.child-index + 1) c.children-child-items.result.now) b) (sym c.or-new.ensures)
    (put_more c.args.known.now c.loop-child.known c.put_name.new.known c.children-child-items.result.now c.loop-child.child-index c.child-item.result c.loop-child.new c.in_ok-one.one
    c.loop-child-test.true c.child-item.is c.in_ok-one.ensures.names c.in_ok-one.ensures.none c.loop-child.invariant)

pub returns : goal.returns
returns c =
    subst (λ (l : List Object). ArePut c.args.known.now c.loop-child.known l c.loop-child.new)
    (take_all c.loop-child.child-index c.children-child-items.result.now c.loop-child-test.false ∙ c.children-child-items.ensures.value) c.loop-child.invariant
