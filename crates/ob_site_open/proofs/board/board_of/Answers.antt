use Rattle.std.proofs.Common.{sym, ap, ◌∙◌, subst, List}
use Rattle.std.specs.List.{All}
use Rattle.ob_alarms.specs.Limits.{IsRule}
use Rattle.ob_site_rules.specs.declared.plan.PointRule.{PointRule}
use Rattle.ob_site_rules.specs.State.{numbered_from}
use Rattle.ob_site_open.proofs.Numbered.{sources_differ}
use Rattle.ob_site_open.proofs.board.board_of.Goals as goal

pub new-requires-clause-sources_differ : goal.new-requires-clause-sources_differ
new-requires-clause-sources_differ c = sources_differ c.in_ok-rules.rules.items _ c.in_ok-rules.ensures

pub new-requires-clause-are_rules : goal.new-requires-clause-are_rules
new-requires-clause-are_rules c =
    subst (All IsRule) (sym (c.in_ok-rules.ensures ∙ ap (λ (l : List PointRule). numbered_from 0 l) c.as_slice.ensures)) c.requires
