-- What a request to the site itself does, by what its path names.
use Rattle.std.proofs.Common.{◌≡◌, ℕ, Bool, true, false, cond, List, refl, ap, ◌∙◌}
use Rattle.std.specs.Prelude.{Option, Some, None}
use Rattle.url.specs.Parts.{Parts}
use Rattle.ob_site_rules.specs.declared.request.Request.{Request}
use Rattle.ob_site_rules.specs.Build.{Text, Path}
use Rattle.ob_site_rules.specs.declared.fault.Fault.TheVariants.{NoSuchObject, NotInBatch}
use Rattle.ob_site_rules.specs.Faults.{err}
use Rattle.ob_site_rules.specs.declared.plan.Plan.{Plan}
use Rattle.ob_site_rules.specs.State.{State}
use Rattle.ob_site_rules.specs.declared.resource.Resource.{Resource}
use Rattle.ob_site_rules.specs.declared.resource.Resource.TheVariants.{About, Batch, Service, Make, AlarmAt, AckOf, WritePointOf, QueryOf, FeedOf, AlarmQuery, AlarmFeed, Node}
use Rattle.ob_site_rules.specs.Places.{place_at}
use Rattle.ob_site_rules.specs.Actions.{act_at, act_located, act_on, batch, is_left_out, is_of_watch, item_at, item_on}
use Rattle.ob_requests.specs.BatchCalls.{is_batch_call}

by_place : (locate : Parts → Text → Option Path) (plan : Plan) (s : State) (ns : List ℕ) (now : ℕ) (r : Request) (p : Path) (place : Resource) → act_on locate plan s ns now r p (Some place) ≡ cond (is_batch_call place r.verb) (batch locate plan s ns now r.body) (act_at plan s now p r.verb place r.body)
by_place locate plan s ns now r p About = refl
by_place locate plan s ns now r p Batch = refl
by_place locate plan s ns now r p Service = refl
by_place locate plan s ns now r p Make = refl
by_place locate plan s ns now r p (AlarmAt n) = refl
by_place locate plan s ns now r p (AckOf n) = refl
by_place locate plan s ns now r p (WritePointOf q) = refl
by_place locate plan s ns now r p (QueryOf h) = refl
by_place locate plan s ns now r p (FeedOf h) = refl
by_place locate plan s ns now r p AlarmQuery = refl
by_place locate plan s ns now r p AlarmFeed = refl
by_place locate plan s ns now r p (Node o) = refl

pub act_nowhere : (locate : Parts → Text → Option Path) (plan : Plan) (s : State) (ns : List ℕ) (now : ℕ) (r : Request) (p : Path) → place_at plan s p ≡ None → act_located locate plan s ns now r (Some p) ≡ (s, err NoSuchObject)
act_nowhere locate plan s ns now r p e = ap (act_on locate plan s ns now r p) e

pub batch_done : (locate : Parts → Text → Option Path) (plan : Plan) (s : State) (ns : List ℕ) (now : ℕ) (r : Request) (p : Path) (place : Resource) → place_at plan s p ≡ Some place → is_batch_call place r.verb ≡ true → act_located locate plan s ns now r (Some p) ≡ batch locate plan s ns now r.body
batch_done locate plan s ns now r p place e h =
    ap (act_on locate plan s ns now r p) e
    ∙ (by_place locate plan s ns now r p place ∙ ap (λ b. cond b (batch locate plan s ns now r.body) (act_at plan s now p r.verb place r.body)) h)

pub act_done : (locate : Parts → Text → Option Path) (plan : Plan) (s : State) (ns : List ℕ) (now : ℕ) (r : Request) (p : Path) (place : Resource) → place_at plan s p ≡ Some place → is_batch_call place r.verb ≡ false → act_located locate plan s ns now r (Some p) ≡ act_at plan s now p r.verb place r.body
act_done locate plan s ns now r p place e h =
    ap (act_on locate plan s ns now r p) e
    ∙ (by_place locate plan s ns now r p place ∙ ap (λ b. cond b (batch locate plan s ns now r.body) (act_at plan s now p r.verb place r.body)) h)

pub item_nowhere : (plan : Plan) (s : State) (ns : List ℕ) (now : ℕ) (r : Request) (p : Path) (b : Bool) → place_at plan s p ≡ None → b ≡ is_of_watch plan ns p → item_on plan s ns now r (Some p) ≡ (s, err (cond (is_of_watch plan ns p) NotInBatch NoSuchObject))
item_nowhere plan s ns now r p b e h = ap (item_at plan s ns now r p) e

pub item_out : (plan : Plan) (s : State) (ns : List ℕ) (now : ℕ) (r : Request) (p : Path) (place : Resource) → place_at plan s p ≡ Some place → is_left_out place ≡ true → item_on plan s ns now r (Some p) ≡ (s, err NotInBatch)
item_out plan s ns now r p place e h =
    ap (item_at plan s ns now r p) e ∙ ap (λ b. cond b (s, err NotInBatch) (act_at plan s now p r.verb place r.body)) h

pub item_done : (plan : Plan) (s : State) (ns : List ℕ) (now : ℕ) (r : Request) (p : Path) (place : Resource) → place_at plan s p ≡ Some place → is_left_out place ≡ false → item_on plan s ns now r (Some p) ≡ act_at plan s now p r.verb place r.body
item_done plan s ns now r p place e h =
    ap (item_at plan s ns now r p) e ∙ ap (λ b. cond b (s, err NotInBatch) (act_at plan s now p r.verb place r.body)) h
