use Rattle.std.proofs.Common.{◌≡◌, ◌-◌, ◌+◌, drop}
use Rattle.std.specs.Option.{option_copied}
use Rattle.ob_object.specs.Object.{parts, in_row}
use Rattle.ob_contracts.specs.Inherit.{sources, inherited_head, implied_by}
use Rattle.ob_site_rules.specs.declared.plan.Plan.{Plan}
use Rattle.ob_site_rules.specs.State.{State}
use Rattle.ob_site_rules.specs.Shown.{with_roles}
use Rattle.ob_site_file.specs.Sizes.{IsCounting, row_count}
use Rattle.ob_site_file.proofs.size.+left_after_shown.Given as goal

abbrev pub decreases-left_after_shown : goal.decreases-left_after_shown
decreases-left_after_shown l = parts l.placed.object.now

abbrev pub invariant-loop-child : goal.invariant-loop-child
invariant-loop-child l = (plan : Plan) (s : State) → IsCounting l.counting plan s
    → l.left - row_count s.library (implied_by (inherited_head l.placed.object.now.head (sources s.library l.placed.object.now.head (option_copied l.placed.implied) (option_copied l.placed.over)))) (sources s.library l.placed.object.now.head (option_copied l.placed.implied) (option_copied l.placed.over))
    (with_roles plan s (in_row (drop l.child-index l.child-items)))
    ≡ l.most - (1 + row_count s.library (implied_by (inherited_head l.placed.object.now.head (sources s.library l.placed.object.now.head (option_copied l.placed.implied) (option_copied l.placed.over)))) (sources s.library l.placed.object.now.head (option_copied l.placed.implied) (option_copied l.placed.over))
    (with_roles plan s (in_row l.child-items)))
