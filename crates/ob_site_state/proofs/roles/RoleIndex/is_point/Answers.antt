use Rattle.std.proofs.Common.{ap, ◌∙◌}
use Rattle.std.specs.Prelude.{is_some}
use Rattle.ob_site_state.specs.Roles.{is_at}
use Rattle.ob_site_state.proofs.Placed.{some_first}
use Rattle.ob_site_state.proofs.roles.RoleIndex.is_point.Goals as goal

pub returns : goal.returns
returns c = λ plan roles. c.leads.ensures ∙ ap is_some (roles.points c.args.path.now) ∙ some_first (is_at c.args.path.now) plan.points
