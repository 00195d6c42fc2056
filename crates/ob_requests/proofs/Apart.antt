-- What is made of a request that posts no list doesn't depend on which watches stand.
use Rattle.std.proofs.Common.{◌≡◌, ℕ, Bool, true, false, cond, not, List, [], ◌∷◌, Option, Some, None, refl}
use Rattle.std.specs.Prelude.{◌&&◌, nat_lt, length}
use Rattle.url.specs.Parts.{Parts}
use Rattle.ob_object.specs.Kinds.{same_kind}
use Rattle.ob_object.specs.Object.{Object, children}
use Rattle.ob_object.specs.declared.kind.Kind.TheVariants as kind
use Rattle.ob_site_rules.specs.declared.request.Request.{Request}
use Rattle.ob_site_rules.specs.Build.{Text, Path}
use Rattle.ob_site_rules.specs.declared.fault.Fault.{Fault}
use Rattle.ob_site_rules.specs.declared.fault.Fault.TheVariants.{OtherShape, TooManyBatchItems}
use Rattle.ob_site_rules.specs.Faults.{first_fault}
use Rattle.ob_site_rules.specs.declared.plan.Plan.{Plan}
use Rattle.ob_site_rules.specs.State.{State}
use Rattle.ob_site_rules.specs.declared.resource.Resource.{Resource}
use Rattle.ob_site_rules.specs.declared.resource.Resource.TheVariants.{Batch}
use Rattle.ob_site_rules.specs.Places.{place_at}
use Rattle.ob_site_rules.specs.Actions.{is_post, batch_or, batch, act_on, act_located, act_at}
use Rattle.ob_requests.specs.BatchCalls.{is_list, posts_list}

module _ (locate : Parts → Text → Option Path) (plan : Plan) (ns ks : List ℕ) (now : ℕ) where
  -- what isn't a list is refused
  refused_apart : (s : State) (body : Object) (rest : List (Bool × Fault)) (b : Bool) → b ≡ false
      → batch_or locate (first_fault ((not b, OtherShape) ∷ rest)) plan s ns now body ≡ batch_or locate (first_fault ((not b, OtherShape) ∷ rest)) plan s ks now body
  refused_apart s body rest true e = absurd (cc e)
  refused_apart s body rest false e = refl

  batch_apart : (s : State) (body : Option Object) → is_list body ≡ false → batch locate plan s ns now body ≡ batch locate plan s ks now body
  batch_apart s None e = refl
  batch_apart s (Some body) e = refused_apart s body ((nat_lt 1000 (length (children body)), TooManyBatchItems) ∷ []) (same_kind body.head.kind kind.List) e

  on_apart : (s : State) (r : Request) (p : Path) (place : Option Resource) → posts_list r ≡ false → act_on locate plan s ns now r p place ≡ act_on locate plan s ks now r p place
  on_apart s r p None e = refl
  on_apart s r p (Some Batch) e = go (is_post r.verb) e
    where
      go : (b : Bool) → (b && is_list r.body) ≡ false
          → cond b (batch locate plan s ns now r.body) (act_at plan s now p r.verb Batch r.body) ≡ cond b (batch locate plan s ks now r.body) (act_at plan s now p r.verb Batch r.body)
      go true e = batch_apart s r.body e
      go false e = refl
  on_apart s r p (Some place) e = refl

  pub act_apart : (s : State) (r : Request) (p : Option Path) → posts_list r ≡ false → act_located locate plan s ns now r p ≡ act_located locate plan s ks now r p
  act_apart s r None e = refl
  act_apart s r (Some p) e = on_apart s r p (place_at plan s p) e
