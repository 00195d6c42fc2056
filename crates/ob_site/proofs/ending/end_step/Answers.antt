use Rattle.std.proofs.Common.{List, map, sym, ◌∙◌, subst}
use Rattle.ob_site_settling.specs.Ended.{EndsAll}
use Rattle.ob_tree.specs.declared.node.NodeId.{NodeId}
use Rattle.ob_site.proofs.ending.end_step.Goals as goal

pub stamped_nodes-requires-clause-long : goal.stamped_nodes-requires-clause-long
stamped_nodes-requires-clause-long g c = c.requires.kept.long ∙ sym c.nodes_stay_law.ensures.count

pub settle-requires-clause-ends : goal.settle-requires-clause-ends
settle-requires-clause-ends g c = subst (λ (nodes : List NodeId). EndsAll c.args.state.now (map (λ node. node.number) nodes)) (sym c.deref.ensures.value) c.in_ok-nodes.ensures.ends
