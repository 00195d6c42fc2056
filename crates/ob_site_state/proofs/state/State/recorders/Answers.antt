use Rattle.std.proofs.Common.{ap, ◌∙◌}
use Rattle.ob_site_state.specs.Roles.{recorders_of}
use Rattle.ob_site_state.specs.Kept.{Kept}
use Rattle.ob_site_state.proofs.state.State.recorders.Goals as goal

pub returns : goal.returns
returns c = c.recorders.ensures c.self.inside.plan c.self.invariant.roles ∙ ap (λ (k : Kept). recorders_of k.plan c.args.source.now) c.self.view_is
