use Rattle.std.proofs.Common.{Bool, ap₂, ◌&&◌, ◌∙◌}
use Rattle.ob_contracts.specs.Shown.{shown}
use Rattle.ob_site_rules.specs.Sameness.{same_option, same_slot, same_status}
use Rattle.ob_tree.specs.Standings.{context}
use Rattle.ob_site_settling.proofs.Comparing.{other_values}
use Rattle.ob_site_settling.proofs.values.shows_other_values.Goals as goal

pub returns : goal.returns
returns g c =
    other_values (context c.args.standing.now) c.args.before.now c.args.now.now (shown c.view-before.result) (shown c.view-now.result) c.has_same-is_same.result
    c.view-before.ensures.view c.view-now.ensures.view
    (c.has_same-is_same.ensures
    ∙ ap₂ (λ (a b : Bool). a && b) (ap₂ same_slot c.slot.ensures c.slot-2.ensures) (ap₂ (same_option same_status) c.status_of.ensures c.status_of-2.ensures))
