use Rattle.std.proofs.Common.{List, Option, ap, ◌∙◌}
use Rattle.ob_alarms.specs.Lists.{first_place}
use Rattle.ob_site_rules.specs.declared.plan.PointRule.{PointRule}
use Rattle.ob_site_rules.specs.Build.{Path}
use Rattle.ob_site_state.specs.Roles.{has_source, is_at, stands_at, all_places, is_of}
use Rattle.ob_site_state.proofs.roles.RoleIndex.of.Goals as goal

pub returns : goal.returns
returns c = record {
  rules = λ p. c.in_ok-rules.ensures p ∙ ap (λ (rs : List PointRule). first_place (has_source p) rs) c.as_slice.ensures;
  points = λ p. c.in_ok-points.ensures p ∙ ap (λ (qs : List Path). first_place (is_at p) qs) c.as_slice-2.ensures;
  histories = λ p. c.in_ok-histories.ensures p ∙ ap (λ (hs : List (Path × Option Path)). first_place (stands_at p) hs) c.as_slice-3.ensures;
  recorders = λ p. c.in_ok-recorders.ensures p ∙ ap (λ (hs : List (Path × Option Path)). all_places (is_of p) hs) c.as_slice-4.ensures;
}
