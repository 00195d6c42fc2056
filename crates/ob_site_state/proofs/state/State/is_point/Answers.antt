use Rattle.std.proofs.Common.{ap, ◌∙◌}
use Rattle.ob_site_rules.specs.State.{is_among}
use Rattle.ob_site_state.specs.Kept.{Kept}
use Rattle.ob_site_state.proofs.state.State.is_point.Goals as goal

pub returns : goal.returns
returns c = c.is_point.ensures c.self.inside.plan c.self.invariant.roles ∙ ap (λ (k : Kept). is_among c.args.path.now k.plan.points) c.self.view_is
