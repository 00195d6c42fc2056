use Rattle.std.proofs.Common.{◌≡◌, ◌∙◌, Some, None, false, sym, ap, subst}
use Rattle.ob_tree.specs.Trees.{Stamped}
use Rattle.ob_shown_laws.specs.Contracted.{is_inside}
use Rattle.ob_site_state.proofs.Contracted.{not_inside, no_contracts}
use Rattle.ob_site_state.proofs.own_contracts.may_be_in_contracts.Goals as goal

pub returns-in-Some : goal.returns-in-Some
returns-in-Some c = λ no p at.
    let o = c.args.ground.now.tree.root in
    not_inside o c.in-Some.contracts.number c.args.node.number p c.in-Some.ensures.child c.in-Some.ensures.within
    (subst (λ (t : Stamped). is_inside c.args.node.number c.in-Some.contracts.number t.root ≡ false) c.tree.ensures (c.may_be_inside.ensures no)) c.requires.differ at

pub returns-in-None : goal.returns-in-None
returns-in-None c = λ no p at. no_contracts c.args.ground.now.tree.root p c.in-None.ensures.child
