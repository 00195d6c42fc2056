use Rattle.ob_site_file.proofs.Counted.{up_first, up_more, up_parts, up_names}
use Rattle.std.proofs.Common.{Some, filter, ◌-◌, ◌++◌, ap, ◌∙◌, List}
use Rattle.ob_object.specs.Object.{Object, count, in_row}
use Rattle.ob_contracts.specs.Inherit.{is_new}
use Rattle.ob_object.specs.WellFormed.{is_taken}
use Rattle.ob_site_file.proofs.size.left_after_source.Goals as goal

pub loop-child-init : goal.loop-child-init
loop-child-init c = λ before names. up_first c.args.most before c.children-child-items.result.now c.args.there.now names

pub loop-child-preserved : goal.loop-child-preserved
loop-child-preserved c = λ before names.
    up_more c.args.most before c.children-child-items.result.now c.loop-child.child-index c.loop-child.left c.in_ok-left.left c.child-item.result c.loop-child.there c.left_after_new.new.there
    c.children-child-items.ensures.names_differ c.loop-child-test.true c.child-item.is c.in_ok-left.ensures.left c.in_ok-left.ensures.there (c.loop-child.invariant before names)

pub returns-clause-left : goal.returns-clause-left
returns-clause-left c = λ before names.
    up_parts c.args.most before c.children-child-items.result.now c.loop-child.child-index c.loop-child.left c.loop-child.there c.loop-child-test.false (c.loop-child.invariant before names)
    ∙ ap (λ (l : List Object). c.args.most - count (in_row (filter (is_new before) l))) c.children-child-items.ensures.value

pub returns-clause-there : goal.returns-clause-there
returns-clause-there c = λ before names n.
    up_names c.args.most before c.children-child-items.result.now c.loop-child.child-index c.loop-child.left c.loop-child.there c.loop-child-test.false (c.loop-child.invariant before names) n
    ∙ ap (λ (l : List Object). is_taken (Some n) (before ++ l)) c.children-child-items.ensures.value
