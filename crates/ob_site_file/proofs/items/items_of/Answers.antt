use Rattle.std.proofs.Common.{◌≡◌, true, sym, ◌∙◌}
use Rattle.ob_object.specs.declared.kind.Kind.TheVariants as kind
use Rattle.ob_site_rules.specs.Roles.{is_part}
use Rattle.ob_roles.specs.SiteParts.{part as site_part}
use Rattle.ob_site_file.proofs.Listed.{items_found}
use Rattle.ob_site_file.proofs.items.items_of.Goals as goal

pub returns-then-is_list-clause-objects : goal.returns-then-is_list-clause-objects
returns-then-is_list-clause-objects c =
    let list : is_part c.args.name.now kind.List c.child-item.result.head ≡ true = sym c.is_list.ensures ∙ c.if-is_list.true in
    (items_found c.args.name.now (site_part c.args.part.now) c.children-child-items.result.now c.loop-child.child-index c.loop-child.number c.saturating_add.result c.child-item.result c.children.result.now c.children-child-items.ensures.names_differ
    c.children-child-items.ensures.value c.loop-child-test.true c.child-item.is list c.saturating_add.ensures c.children.ensures.value c.loop-child.invariant).objects

pub returns-then-is_list-clause-items : goal.returns-then-is_list-clause-items
returns-then-is_list-clause-items c =
    let list : is_part c.args.name.now kind.List c.child-item.result.head ≡ true = sym c.is_list.ensures ∙ c.if-is_list.true in
    (items_found c.args.name.now (site_part c.args.part.now) c.children-child-items.result.now c.loop-child.child-index c.loop-child.number c.saturating_add.result c.child-item.result c.children.result.now c.children-child-items.ensures.names_differ
    c.children-child-items.ensures.value c.loop-child-test.true c.child-item.is list c.saturating_add.ensures c.children.ensures.value c.loop-child.invariant).items

pub returns-then-is_list-clause-within : goal.returns-then-is_list-clause-within
returns-then-is_list-clause-within c =
    let list : is_part c.args.name.now kind.List c.child-item.result.head ≡ true = sym c.is_list.ensures ∙ c.if-is_list.true in
    (items_found c.args.name.now (site_part c.args.part.now) c.children-child-items.result.now c.loop-child.child-index c.loop-child.number c.saturating_add.result c.child-item.result c.children.result.now c.children-child-items.ensures.names_differ
    c.children-child-items.ensures.value c.loop-child-test.true c.child-item.is list c.saturating_add.ensures c.children.ensures.value c.loop-child.invariant).within
