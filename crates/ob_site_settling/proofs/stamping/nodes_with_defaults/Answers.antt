use Rattle.std.proofs.Common.{◌≡◌, ◌<◌, ◌++◌, All, map}
use Rattle.std.proofs.lemmas.Result.{IfOk-weaker}
use Rattle.ob_object.specs.Object.{parts}
use Rattle.ob_site_settling.specs.Ended.{EndsAll}
use Rattle.ob_site_settling.proofs.Stamped.{both_end, both_within}
use Rattle.ob_site_settling.proofs.stamping.nodes_with_defaults.Goals as goal

pub returns-clause-ends : goal.returns-clause-ends
returns-clause-ends g c =
    let k = c.args.state.now in
    IfOk-weaker c.joined.result (λ all. all.items ≡ c.in_ok-nodes.nodes.items ++ c.in_ok-others.others.items) (λ all. EndsAll k (map (λ node. node.number) all.items))
    (λ all is.
    both_end k c.in_ok-nodes.nodes.items c.in_ok-others.others.items all.items c.is_told.ensures.values c.is_told.ensures.differ c.requires.given
    c.in_ok-nodes.ensures.changed c.in_ok-others.ensures.others c.requires.long is) c.joined.ensures

pub returns-clause-within : goal.returns-clause-within
returns-clause-within g c =
    let k = c.args.state.now in
    IfOk-weaker c.joined.result (λ all. all.items ≡ c.in_ok-nodes.nodes.items ++ c.in_ok-others.others.items) (λ all. All (λ node. node.number < parts k.now.tree) all.items)
    (λ all is. both_within (parts k.now.tree) c.in_ok-nodes.nodes.items c.in_ok-others.others.items all.items c.in_ok-nodes.ensures.within c.in_ok-others.ensures.within is) c.joined.ensures
