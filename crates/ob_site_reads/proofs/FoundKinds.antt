-- What an asked href names, by the kind of what is shown.
use Rattle.std.proofs.Common.{◌≡◌, ℕ, cond, List, Option, Some, None, option_map, refl, sym, ap, ◌∙◌}
use Rattle.ob_object.specs.declared.kind.Kind.{Kind}
use Rattle.ob_object.specs.Object.{Object}
use Rattle.ob_contracts.specs.Inherit.{or_else}
use Rattle.ob_watching.specs.Operations.{NotFound, ObjectAt}
use Rattle.ob_site_rules.specs.Actions.{is_of_watch}
use Rattle.ob_site_rules.specs.Build.{Path}
use Rattle.ob_site_rules.specs.declared.fault.Fault.TheVariants.{NoSuchObject, NotWatchable}
use Rattle.ob_site_rules.specs.declared.resource.Resource.TheVariants.{Node}
use Rattle.ob_site_rules.specs.declared.resource.Resource.{Resource}
use Rattle.ob_site_rules.specs.declared.plan.Plan.{Plan}
use Rattle.ob_site_rules.specs.Watched.{SiteFound, found_at, found_place, is_call_kind}

module _ (plan : Plan) (ns : List ℕ) (p : Path) where
  -- something of this kind is shown
  pub node_found : (kind : Kind) (r : Option Object) (f : SiteFound) → Some kind ≡ option_map (λ (o : Object). o.head.kind) r → f ≡ cond (is_call_kind kind) (NotFound NotWatchable) (ObjectAt p)
      → (input : Option Object) → f ≡ found_at plan ns p input (option_map Node r)
  node_found kind None f of_kind is input = absurd (none_same of_kind)
    where
      none_same : Some kind ≡ (let q : Option Kind = None in q) → ⊥
      none_same e = cc
  node_found kind (Some o) f of_kind is input = is ∙ ap (λ (k : Kind). (let g : SiteFound = cond (is_call_kind k) (NotFound NotWatchable) (ObjectAt p) in g)) (some_same o.head.kind of_kind)
    where
      some_same : (a : Kind) → Some kind ≡ (let q : Option Kind = Some a in q) → kind ≡ a
      some_same a e = cc

  -- nothing is shown
  pub none_found : (r : Option Object) (f : SiteFound) → None ≡ option_map (λ (o : Object). o.head.kind) r → f ≡ NotFound (cond (is_of_watch plan ns p) NotWatchable NoSuchObject)
      → (input : Option Object) → f ≡ found_at plan ns p input (option_map Node r)
  none_found None f of_kind is input = is
  none_found (Some o) f of_kind is input = absurd (some_same of_kind)
    where
      some_same : (let q : Option Kind = None in q) ≡ Some o.head.kind → ⊥
      some_same e = cc

  -- a computed place counts first
  pub place_found : (input : Option Object) (place : Resource) (q r : Option Resource) (f : SiteFound) → Some place ≡ q → f ≡ found_place p input place → f ≡ found_at plan ns p input (or_else q r)
  place_found input place q r f here is = is ∙ ap (λ (x : Option Resource). found_at plan ns p input (or_else x r)) here

  pub shown_found : (input : Option Object) (q r : Option Resource) (f : SiteFound) → None ≡ q → f ≡ found_at plan ns p input r → f ≡ found_at plan ns p input (or_else q r)
  shown_found input q r f here is = is ∙ ap (λ (x : Option Resource). found_at plan ns p input (or_else x r)) here
