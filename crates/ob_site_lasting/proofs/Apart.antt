-- What the whole site becomes doesn't depend on which watches stand, and a read leaves it as it was.
use Rattle.std.proofs.Common.{◌≡◌, ℕ, Bool, true, false, cond, List, [], ◌∷◌, Option, Some, None, refl, ap, ◌∙◌}
use Rattle.url.specs.Parts.{Parts}
use Rattle.ob_values.specs.declared.verb.Verb.TheVariants.{Get}
use Rattle.ob_object.specs.Object.{Object, children}
use Rattle.ob_site_rules.specs.declared.request.Request.{Request}
use Rattle.ob_site_rules.specs.Build.{Text, Path}
use Rattle.ob_site_rules.specs.declared.fault.Fault.{Fault}
use Rattle.ob_site_rules.specs.Faults.{first_fault}
use Rattle.ob_site_rules.specs.declared.plan.Plan.{Plan}
use Rattle.ob_site_rules.specs.State.{State}
use Rattle.ob_site_rules.specs.declared.resource.Resource.{Resource}
use Rattle.ob_site_rules.specs.declared.resource.Resource.TheVariants.{Batch}
use Rattle.ob_site_rules.specs.Places.{place_at}
use Rattle.ob_site_rules.specs.Actions.{is_post, item_at, item_on, item_request, act_item, act_all, batch_rows, batch_or, batch, act_on, act_located, act_itself, act_at}

module _ (locate : Parts → Text → Option Path) (plan : Plan) (ns ks : List ℕ) (now : ℕ) where
  item_at_apart : (s : State) (r : Request) (p : Path) (place : Option Resource) → (item_at plan s ns now r p place).0 ≡ (item_at plan s ks now r p place).0
  item_at_apart s r p None = refl
  item_at_apart s r p (Some place) = refl

  item_on_apart : (s : State) (r : Request) (p : Option Path) → (item_on plan s ns now r p).0 ≡ (item_on plan s ks now r p).0
  item_on_apart s r None = refl
  item_on_apart s r (Some p) = item_at_apart s r p (place_at plan s p)

  item_apart : (s : State) (r : Option Request) → (act_item locate plan s ns now r).0 ≡ (act_item locate plan s ks now r).0
  item_apart s None = refl
  item_apart s (Some r) = item_on_apart s r (locate plan.base r.target)

  all_apart : (s : State) (os : List Object) → (act_all locate plan s ns now os).0 ≡ (act_all locate plan s ks now os).0
  all_apart s [] = refl
  all_apart s (o ∷ os) =
      all_apart (act_item locate plan s ns now (item_request o)).0 os
      ∙ ap (λ (u : State). (act_all locate plan u ks now os).0) (item_apart s (item_request o))

  batch_or_apart : (fault : Option Fault) (s : State) (body : Object) → (batch_or locate fault plan s ns now body).0 ≡ (batch_or locate fault plan s ks now body).0
  batch_or_apart (Some fault) s body = refl
  batch_or_apart None s body = all_apart s (children body)

  batch_apart : (s : State) (body : Option Object) → (batch locate plan s ns now body).0 ≡ (batch locate plan s ks now body).0
  batch_apart s None = refl
  batch_apart s (Some body) = batch_or_apart (first_fault (batch_rows locate body)) s body

  on_apart : (s : State) (r : Request) (p : Path) (place : Option Resource) → (act_on locate plan s ns now r p place).0 ≡ (act_on locate plan s ks now r p place).0
  on_apart s r p None = refl
  on_apart s r p (Some Batch) = go (is_post r.verb)
    where
      go : (b : Bool) → let with_ns : State × Object = cond b (batch locate plan s ns now r.body) (act_at plan s now p r.verb Batch r.body) in
          let with_ks : State × Object = cond b (batch locate plan s ks now r.body) (act_at plan s now p r.verb Batch r.body) in with_ns.0 ≡ with_ks.0
      go true = batch_apart s r.body
      go false = refl
  on_apart s r p (Some place) = refl

  located_apart : (s : State) (r : Request) (p : Option Path) → (act_located locate plan s ns now r p).0 ≡ (act_located locate plan s ks now r p).0
  located_apart s r None = refl
  located_apart s r (Some p) = on_apart s r p (place_at plan s p)

  pub itself_apart : (s : State) (r : Request) → (act_itself locate plan s ns r now).0 ≡ (act_itself locate plan s ks r now).0
  itself_apart s r = located_apart s r (locate plan.base r.target)

module _ (locate : Parts → Text → Option Path) (plan : Plan) (ns : List ℕ) (now : ℕ) where
  read_on : (s : State) (target : Text) (body : Option Object) (p : Path) (place : Option Resource) → (act_on locate plan s ns now (record { verb = Get; target = target; body = body }) p place).0 ≡ s
  read_on s target body p None = refl
  read_on s target body p (Some Batch) = refl
  read_on s target body p (Some place) = refl

  read_located : (s : State) (target : Text) (body : Option Object) (p : Option Path) → (act_located locate plan s ns now (record { verb = Get; target = target; body = body }) p).0 ≡ s
  read_located s target body None = refl
  read_located s target body (Some p) = read_on s target body p (place_at plan s p)

  pub read_itself : (s : State) (target : Text) (body : Option Object) → (act_itself locate plan s ns (record { verb = Get; target = target; body = body }) now).0 ≡ s
  read_itself s target body = read_located s target body (locate plan.base target)
