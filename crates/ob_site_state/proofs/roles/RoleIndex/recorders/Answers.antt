use Rattle.std.proofs.Common.{◌∙◌}
use Rattle.ob_site_state.proofs.roles.RoleIndex.recorders.Goals as goal

pub returns : goal.returns
returns c = λ plan roles. c.places_at.ensures ∙ roles.recorders c.args.source.now
