use Rattle.std.proofs.Common.{ap, ◌∙◌, option_map}
use Rattle.std.specs.Option.{option_copied}
use Rattle.ob_tree.specs.Standings.{context}
use Rattle.ob_tree.specs.Laid.{leaf, head_at}
use Rattle.ob_tree.specs.Shown.{standing_at}
use Rattle.ob_tree.specs.Trees.{Stamped}
use Rattle.ob_site_settling.specs.Telling.{replaced_or}
use Rattle.ob_site_settling.proofs.Looping.{shown_slot}
use Rattle.ob_site_settling.proofs.changes.shows_other_slot.Goals as goal

pub returns : goal.returns
returns g c =
    shown_slot (standing_at (replaced_or (option_copied c.args.replaced) c.args.state.now.now) c.args.node.number c.args.state.now.now.tree) (head_at c.args.node.number c.args.state.now.now.tree) c.args.slot.now c.in_ok-slot.slot
    (context c.standing_before-standing.result) c.own.result.now c.own-2.result.now c.in_ok-before.before c.replace_slot-now.new.self c.shows_other_values.result
    c.standing_before-standing.ensures
    (c.own.ensures ∙ ap (λ (t : Stamped). option_map leaf (head_at c.args.node.number t.root)) c.tree-tree.ensures.value)
    (c.own-2.ensures ∙ ap (λ (t : Stamped). option_map leaf (head_at c.args.node.number t.root)) c.tree-tree.ensures.value)
    c.in_ok-slot.ensures c.in_ok-before.ensures c.replace_slot-now.ensures.new c.shows_other_values.ensures
