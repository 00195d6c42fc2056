use Rattle.std.proofs.Common.{◌≡◌, None, Option, Some, option_map, ap, ◌∙◌, sym}
use Rattle.std.specs.Prelude.{is_some}
use Rattle.std.proofs.lemmas.Result.{IfOk-weaker}
use Rattle.ob_contracts.specs.Inherit.{contract_of}
use Rattle.ob_object.specs.Object.{Object}
use Rattle.ob_site_rules.specs.Build.{child}
use Rattle.ob_site_rules.specs.Writes.{has_child, ranged}
use Rattle.ob_tree.specs.Laid.{paths}
use Rattle.ob_tree.specs.Paths.{place_of}
use Rattle.ob_tree.specs.Trees.{Stamped}
use Rattle.ob_shown_laws.specs.OwnTree.{own_shown_at}
use Rattle.ob_site_actions.proofs.Ranged.{node_has, nothing_has}
use Rattle.ob_site_actions.proofs.value.node_has.Goals as goal

pub returns-in-Some : goal.returns-in-Some
returns-in-Some g c =
    let k = c.args.state.now in
    let r = c.args.range.now in
    let n = c.args.name.now in
    let number = c.in-Some.node.number in
    let here : Some number ≡ place_of r (paths k.now.tree) = c.in-Some.ensures.place ∙ ap (λ (t : Stamped). place_of r (paths t.root)) c.tree.ensures.value in
    IfOk-weaker c.shows_child.result (λ has. option_map (λ (o : Object). is_some (child n o)) (own_shown_at k.plan k.now number) ≡ Some has)
    (λ has. contract_of k.now.library r ≡ None → has ≡ has_child n (ranged k.plan k.now r))
    (λ has is none. node_has k.plan k.now r n number has c.sound_law.ensures.sound.paths_differ (sym none) here is) c.shows_child.ensures

pub returns-in-None : goal.returns-in-None
returns-in-None g c =
    let k = c.args.state.now in
    let r = c.args.range.now in
    let here : None ≡ place_of r (paths k.now.tree) = c.in-None.ensures.place ∙ ap (λ (t : Stamped). place_of r (paths t.root)) c.tree.ensures.value in
    λ none. nothing_has k.plan k.now r c.args.name.now (sym none) here
