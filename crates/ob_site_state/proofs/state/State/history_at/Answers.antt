use Rattle.std.proofs.Common.{ap, ◌∙◌}
use Rattle.ob_alarms.specs.Lists.{first_place}
use Rattle.ob_site_state.specs.Roles.{stands_at}
use Rattle.ob_site_state.specs.Kept.{Kept}
use Rattle.ob_site_state.proofs.state.State.history_at.Goals as goal

pub returns : goal.returns
returns c = c.history_at.ensures c.self.inside.plan c.self.invariant.roles ∙ ap (λ (k : Kept). first_place (stands_at c.args.path.now) k.plan.histories) c.self.view_is
