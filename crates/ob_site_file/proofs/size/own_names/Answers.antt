use Rattle.std.proofs.Common.{Some, ap, ◌∙◌, List}
use Rattle.std.proofs.lemmas.List.{take_all}
use Rattle.ob_object.specs.Object.{Object}
use Rattle.ob_object.specs.WellFormed.{is_taken}
use Rattle.ob_site_file.proofs.Counted.{own_first, own_more}
use Rattle.ob_site_file.proofs.size.own_names.Goals as goal

pub loop-child-init : goal.loop-child-init
loop-child-init c = own_first c.children-child-items.result.now c.new-there.result c.new-there.ensures.empty

pub loop-child-preserved : goal.loop-child-preserved
loop-child-preserved c =
    own_more c.children-child-items.result.now c.loop-child.child-index c.child-item.result c.loop-child.there c.put_name.new.there c.loop-child-test.true c.child-item.is c.in_ok-put_name.ensures c.loop-child.invariant

pub returns : goal.returns
returns c = λ n.
    c.loop-child.invariant n
    ∙ ap (λ (l : List Object). is_taken (Some n) l) (take_all c.loop-child.child-index c.children-child-items.result.now c.loop-child-test.false ∙ c.children-child-items.ensures.value)
