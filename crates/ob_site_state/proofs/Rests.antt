-- What stays the same of the contents.
use Rattle.std.proofs.Common.{◌≡◌, ◌∙◌, sym, subst}
use Rattle.ob_site_rules.specs.declared.plan.Plan.{Plan}
use Rattle.ob_site_state.specs.Roles.{AreRoles}
use Rattle.ob_site_state.specs.declared.roles.RoleIndex.{RoleIndex}
use Rattle.ob_site_state.specs.declared.contents.Contents.{Contents}
use Rattle.ob_site_state.specs.Contents.{SameRest}

pub rest_then : (a b c : Contents) → SameRest a b → SameRest b c → SameRest a c
rest_then a b c f g = record {
  stamps = g.stamps ∙ f.stamps;
  steps = g.steps ∙ f.steps;
  root = g.root ∙ f.root;
  rules = g.rules ∙ f.rules;
  roles = g.roles ∙ f.roles;
}

-- the same roles are those of the same plan
pub roles_stay : (plan : Plan) (a b : Contents) → b.roles ≡ a.roles → AreRoles a.roles plan → AreRoles b.roles plan
roles_stay plan a b same are = subst (λ (r : RoleIndex). AreRoles r plan) (sym same) are
