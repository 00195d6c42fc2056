use Rattle.ob_site.proofs.Nodes.{nodes_stay}
use Rattle.ob_site.proofs.ending.nodes_stay_law.Goals as goal

pub returns : goal.returns
returns c = nodes_stay c.changes-changes.result.now c.args.state.now.before c.args.state.now.now c.changes-changes.ensures.can c.changes-changes.ensures.before
