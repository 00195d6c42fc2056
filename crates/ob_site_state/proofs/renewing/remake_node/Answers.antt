use Rattle.std.proofs.Common.{◌≡◌, ◌≤◌, Some, None, sym, ap, ◌∙◌, subst}
use Rattle.ob_object.specs.Object.{Object, parts}
use Rattle.ob_contracts.specs.Inherit.{result_of}
use Rattle.ob_contracts.specs.Renewing.{with_contract}
use Rattle.ob_tree.specs.Shown.{part_at}
use Rattle.ob_site_state.proofs.renewing.remake_node.Goals as goal

pub remake-requires-clause-small : goal.remake-requires-clause-small
remake-requires-clause-small g c = c.requires.small c.in_ok-own.own (sym c.in_ok-own.ensures)

pub returns : goal.returns
returns g c = λ x at.
    let here : Some c.in_ok-own.own ≡ part_at c.args.node.number c.args.tree.now.root = c.in_ok-own.ensures in
    let same : c.in_ok-own.own ≡ x = cc in
    subst (λ (o : Object). c.remake.new.self ≡ with_contract c.args.place (result_of c.args.library.now o None None) c.args.library.now) same c.in_ok-_old.ensures.made
