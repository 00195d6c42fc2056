use Rattle.std.proofs.Common.{◌≡◌, ◌<◌, ℕ, List, Some, sym, ap, ◌∙◌, subst}
use Rattle.std.specs.Prelude.{slice_get}
use Rattle.std.specs.Option.{option_copied}
use Rattle.ob_object.specs.Object.{Object, in_row, children, parts}
use Rattle.ob_object.specs.Paths.{is_path, node_path}
use Rattle.ob_contracts.proofs.At.{fewer_parts}
use Rattle.ob_contracts.proofs.Names.{at_place}
use Rattle.ob_site_rules.specs.Shown.{node_in}
use Rattle.ob_plain_state.proofs.Finds.{in_child, in_none, within, copied_there}
use Rattle.ob_plain_state.proofs.find.+node_of.Goals as goal

pub node_of-found-requires : goal.node_of-found-requires
node_of-found-requires t c =
    let object = c.args.object.now in
    let at = c.loop-child.child-index in
    let x = c.child-item.result in
    let here : Some x ≡ slice_get (children object) at =
    subst (λ (l : List Object). Some x ≡ slice_get l at) c.children-child-items.ensures.value (at_place c.children-child-items.result.now at x c.loop-child-test.true c.child-item.is) in
    (subst (λ (n : ℕ). parts x < n) c.decreases (fewer_parts object at x here), tt)

pub returns-then-is_some : goal.returns-then-is_some
returns-then-is_some t c =
    within c.args.path.now c.args.object.now (option_copied c.node_of-found.result)
    (ap (is_path c.args.path.now) (sym (c.node_path.ensures ∙ ap node_path c.head.ensures.value)) ∙ sym c.is_path.ensures ∙ c.if-is_path.false)
    (in_child c.args.path.now c.children-child-items.result.now c.loop-child.child-index c.child-item.result (option_copied c.node_of-found.result) (node_in c.args.path.now (in_row (children c.args.object.now))) c.loop-child.invariant c.loop-child-test.true c.child-item.is c.node_of-found.ensures
    (copied_there c.node_of-found.result (sym c.is_some.ensures ∙ c.if-is_some.true)))

pub returns : goal.returns
returns t c =
    within c.args.path.now c.args.object.now _
    (ap (is_path c.args.path.now) (sym (c.node_path.ensures ∙ ap node_path c.head.ensures.value)) ∙ sym c.is_path.ensures ∙ c.if-is_path.false)
    (sym (in_none c.args.path.now c.children-child-items.result.now c.loop-child.child-index c.loop-child-test.false) ∙ c.loop-child.invariant)
