use Rattle.std.proofs.Common.{◌≡◌, List, Some, None, sym, ap, ◌∙◌, subst}
use Rattle.std.proofs.lemmas.Result.{IfOk-weaker}
use Rattle.ob_object.specs.Object.{Object}
use Rattle.ob_tree.specs.Children.{AreChildNodes}
use Rattle.ob_tree.specs.Trees.{Stamped}
use Rattle.ob_site_state.proofs.OwnRows.{nodes_stand, none_stand}
use Rattle.ob_site_state.proofs.own_contracts.nodes_of.Goals as goal

pub returns-in-Some : goal.returns-in-Some
returns-in-Some c =
    let o = c.args.ground.now.tree.root in
    IfOk-weaker c.child_nodes.result _ _
    (λ nodes are. nodes_stand o c.in-Some.contracts.number nodes.items c.in-Some.ensures.child
    (subst (λ (t : Stamped). AreChildNodes c.in-Some.contracts.number t.root nodes.items) c.tree.ensures are)) c.child_nodes.ensures

pub returns-in-None : goal.returns-in-None
returns-in-None c = none_stand c.args.ground.now.tree.root c.new.result.items c.in-None.ensures.child c.new.ensures.items
