use Rattle.std.proofs.Common.{map}
use Rattle.std.proofs.lemmas.Result.{IfOk-weaker}
use Rattle.ob_site_rules.specs.State.{roll}
use Rattle.ob_shown_laws.specs.Alike.{DifferInValues}
use Rattle.ob_site_settling.specs.Ending.{AreChanged}
use Rattle.ob_site_settling.specs.Ended.{EndsAll}
use Rattle.ob_site_settling.proofs.Stamped.{values_end}
use Rattle.ob_site_settling.proofs.stamping.nodes_with_values.Goals as goal

pub returns-clause-ends : goal.returns-clause-ends
returns-clause-ends g c =
    let k = c.args.state.now in
    IfOk-weaker c.changed_nodes.result (λ nodes. DifferInValues k.before (roll k.now) → AreChanged k.plan k.before (roll k.now) (map (λ node. node.number) nodes.items))
    (λ nodes. EndsAll k (map (λ node. node.number) nodes.items))
    (λ nodes is. values_end k (map (λ node. node.number) nodes.items) c.requires.values c.is_told.ensures.differ (is c.requires.values) c.requires.long) c.changed_nodes.ensures.values
