-- The writable points of a site, as a file of schedules is judged by them.
use Rattle.std.specs.Prelude.{option_map}
use Rattle.ob_points.specs.Points.{point_at, passes}
use Rattle.ob_schedule.specs.PointRules.{PointRules}
use Rattle.ob_site_rules.specs.Sites.{SiteState}

-- The kind of a point's values is that of its own object; it may be written what a Put lets through to it.
abbrev pub rules_of : SiteState → PointRules
rules_of st = record {
  kind_at = λ p. option_map (λ o. o.head.kind) (point_at st.plan st.world.site p);
  lets = λ p v. passes st.plan st.world.site p v;
}
