use Rattle.std.proofs.Common.{◌≡◌, Some, refl, sym, ap, ◌∙◌}
use Rattle.std.specs.Option.{option_copied}
use Rattle.ob_site_rules.specs.Writes.{target_fault}
use Rattle.ob_site_actions.proofs.OwnNodes.{target_first}
use Rattle.ob_site_actions.proofs.own.put_node.Goals as goal

pub returns-in-Some-clause-stop : goal.returns-in-Some-clause-stop
returns-in-Some-clause-stop g c =
    let found : target_fault c.args.own.now.head ≡ Some c.in-Some.fault = sym (c.target_fault.ensures ∙ ap target_fault c.head.ensures.value) ∙ c.in-Some.is in
    (refl, target_first c.args.state.now c.args.at.path.now c.args.own.now (option_copied c.args.body) c.in-Some.fault found)

pub put_free-requires-clause-free : goal.put_free-requires-clause-free
put_free-requires-clause-free g c = sym (c.target_fault.ensures ∙ ap target_fault c.head.ensures.value) ∙ c.in-None.is
