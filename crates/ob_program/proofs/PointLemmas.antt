-- The writable points of a site, and the values that are let through to them, are the same whatever the moment of its boot.
use Rattle.std.proofs.Common.{◌≡◌, ℕ, false, cond, not, Option, None, refl, sym, ap, option_map, option_and_then}
use Rattle.std.specs.Prelude.{is_some, unwrap_or}
use Rattle.ob_contracts.specs.Inherit.{contract_of, or_else}
use Rattle.ob_object.specs.Object.{Object}
use Rattle.ob_object.specs.Write.{verdict}
use Rattle.ob_object.specs.declared.head.Head.{Head}
use Rattle.ob_opening_laws.specs.Moments.{at_moment}
use Rattle.ob_opening_laws.proofs.Moments.{shown_same}
use Rattle.ob_points.specs.Points.{point_at, passes}
use Rattle.ob_schedule_rules.specs.Rules.{rules_of}
use Rattle.ob_site_rules.specs.Build.{Path, Text}
use Rattle.ob_site_rules.specs.Shown.{node_of}
use Rattle.ob_site_rules.specs.Sites.{SiteState}
use Rattle.ob_site_rules.specs.declared.plan.Plan.{Plan}
use Rattle.ob_site_rules.specs.State.{State}
use Rattle.ob_site_rules.specs.Writes.{is_listed, has_child, verdict_fault}
use Rattle.ob_values.specs.declared.value.Value.{Value}
use Rattle.ob_values.specs.declared.value.Value.TheVariants as value

module _ (plan : Plan) (boot : ℕ) (s : State) where
  abbrev moved : Plan
  moved = record plan { boot = boot }

  -- the object that a range names, where this root is shown
  abbrev ranged_in : Object → Text → Option Object
  ranged_in root r = or_else (contract_of s.library r) (cond (is_some (node_of r s.tree)) (node_of r root) None)

  listed_same : (h : Head) (v : Value) → is_listed plan s h v ≡ is_listed moved s h v
  listed_same h (value.Enum t) = ap (λ (root : Object). has_child t (option_and_then (ranged_in root) h.facets.range)) (shown_same plan boot s)
  listed_same h _ = refl

  passes_same : (p : Path) (v : Value) → passes plan s p v ≡ passes moved s p v
  passes_same p v =
      λ i. unwrap_or (option_map (λ o. not (is_some (verdict_fault (verdict o.head.kind o.head.facets.min o.head.facets.max v (listed_same o.head v i))))) (node_of p (shown_same plan boot s i))) false

pub rules_same : (boot time : ℕ) (st : SiteState) → rules_of (at_moment boot time st) ≡ rules_of st
rules_same boot time st = sym (λ i. record {
  kind_at = λ p. option_map (λ o. o.head.kind) (point_at st.plan st.world.site p);
  lets = λ p v. passes_same st.plan boot st.world.site p v i;
})
