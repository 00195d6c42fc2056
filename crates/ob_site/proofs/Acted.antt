-- A request to the site itself.
use Rattle.std.proofs.Common.{◌≡◌, ℕ, ◌<◌, ◌-◌, ◌^◌, cond, List, [], ◌∷◌, map, refl, sym, ap, ap₂, ◌∙◌, subst}
use Rattle.std.specs.Prelude.{nat_lt, slice_get, unwrap_or}
use Rattle.ob_object.specs.Object.{Object as Node, parts}
use Rattle.ob_history.specs.declared.records.Filter.{Filter}
use Rattle.ob_tree.specs.Trees.{Stamped}
use Rattle.ob_watching.specs.Operations.{Itself}
use Rattle.ob_watching.specs.Tables.{numbers_of}
use Rattle.ob_watching.specs.Watches.{TrackedOf, ItemOf, WatchOf, World, ended}
use Rattle.ob_watching.specs.Watches as rules
use Rattle.ob_step_laws.specs.Given.{TakesNoneAway, StepsTakeNoneAway}
use Rattle.ob_site_rules.specs.declared.request.Request.{Request}
use Rattle.ob_site_rules.specs.Actions.{act_itself}
use Rattle.ob_site_rules.specs.Build.{Path, Text}
use Rattle.ob_site_rules.specs.Locating.{locate}
use Rattle.ob_site_rules.specs.State.{State}
use Rattle.ob_site_state.specs.Kept.{Kept, IsSoundFor}
use Rattle.ob_site_state.specs.Stamping.{tree_of}
use Rattle.ob_site_actions.specs.Stops.{IsDone}
use Rattle.ob_site_actions.proofs.Batched.{with_now}
use Rattle.ob_watch.specs.declared.item.Tracked.{Tracked}
use Rattle.ob_watch.specs.declared.item.Tracked.TheVariants as tracked
use Rattle.ob_watch.specs.declared.item.Item.{Item}
use Rattle.ob_watch.specs.AsRules.{world_of}
use Rattle.ob_watch.specs.OfPlan.{of_plan}
use Rattle.ob_watch.specs.Flags.{flag_of, flags, flags_of}
use Rattle.ob_watch.specs.Tables.{Leased, Table, lapsed_at, live}
use Rattle.ob_watch.proofs.LawLemmas.{tables_agree}
use Rattle.ob_site.specs.Between.{HoldsBetweenSteps, IsBegun}
use Rattle.ob_site.specs.Ending.{IsEnded}
use Rattle.ob_site.specs.Steps.{IsAnswered}
use Rattle.ob_site.specs.Views.{tree_with}

abbrev Flagged : Type 0
Flagged = ItemOf Text Path Filter

abbrev Watched : Type 0
Watched = WatchOf Text Path Filter

-- flags beside another root with as many objects
module _ (stamps : List ℕ) (steps : ℕ) (a b : Node) (same : parts a ≡ parts b) where
  abbrev beside : Node → Stamped
  beside root = record { root = root; stamps = stamps; steps = steps }

  flag_beside : (i : Tracked) → flag_of (beside a) i ≡ flag_of (beside b) i
  flag_beside (tracked.Object node mark) =
      ap (λ (n : ℕ). let f : TrackedOf Filter = rules.Object (nat_lt mark (cond (nat_lt node.number n) (unwrap_or (slice_get stamps node.number) 0) 0)) in f) same
  flag_beside (tracked.Feed feed filter given) = refl

  items_beside : (items : List Item) → map (flags (beside a)) items ≡ map (flags (beside b)) items
  items_beside [] = refl
  items_beside (i ∷ items) =
      ap₂ (λ (f : TrackedOf Filter) (fs : List Flagged). let x : Flagged = record { text = i.text; path = i.path; tracked = f } in x ∷ fs) (flag_beside i.tracked) (items_beside items)

  flags_beside : (ws : List (ℕ × Leased)) → flags_of (beside a) ws ≡ flags_of (beside b) ws
  flags_beside [] = refl
  flags_beside (w ∷ ws) =
      ap₂ (λ (fs : List Flagged) (vs : List (ℕ × Watched)). let v : Watched = record { lease = w.1.lease; touched = w.1.touched; items = fs } in let e : ℕ × Watched = (w.0, v) in e ∷ vs)
      (items_beside w.1.items) (flags_beside ws)

module _ (k n : Kept) (t u : Table) (r : Request) (o : Node) where
  abbrev standing : List (ℕ × Leased)
  standing = live k.time t.watches

  -- what the definitions' act is, where these watches stand
  abbrev made : List ℕ → State × Node
  made numbers = act_itself locate k.plan k.now numbers r k.time

  abbrev marked : Stamped → State → World (of_plan k.plan)
  marked tree s = world_of k.plan k.time s tree (lapsed_at k.time t)

  same_made : made (numbers_of standing) ≡ made (numbers_of (flags_of (tree_of k) standing))
  same_made = ap made (sym ((tables_agree k.plan (tree_of k)).numbers standing))

  answered_by : k.before ≡ k.now → IsEnded (with_now k (made (numbers_of standing)).0) n t u → o ≡ (made (numbers_of standing)).1 → IsAnswered k n t u r Itself o
  answered_by before is reply = record {
    plan = is.plan;
    time = is.time;
    since = is.since;
    before = is.before;
    world =
        is.world
        ∙ ap (λ (s : State). ended (of_plan k.plan) s (marked (tree_with acted_state k.stamps k.steps) acted_state)) before
        ∙ ap (λ (ws : List (ℕ × Watched)). ended (of_plan k.plan) k.now (let w : World (of_plan k.plan) = record { time = k.time; site = acted_state; watches = ws; next = t.next } in w))
        (flags_beside k.stamps k.steps acted_state.tree k.now.tree (is.count ∙ ap (λ (s : State). parts s.tree) before) standing)
        ∙ ap (λ (m : State × Node). ended (of_plan k.plan) k.now (marked (tree_of k) m.0)) same_made;
    reply = reply ∙ ap (λ (m : State × Node). m.1) same_made;
    kept = is.kept;
  }
    where
      acted_state : State
      acted_state = (made (numbers_of standing)).0

  -- a request to the site itself is answered so
  pub acted_so : (l : Kept) → k.before ≡ k.now → IsDone k l (made (numbers_of standing)) o → IsEnded l n t u → IsAnswered k n t u r Itself o
  acted_so l before done is = answered_by before (subst (λ (x : Kept). IsEnded x n t u) done.after is) done.answer

-- what the end of a step asks of the state in the middle of it
pub kept_in : (k l : Kept) (t : Table) (s : State) → IsBegun k t → l ≡ with_now k s → HoldsBetweenSteps l.plan l.before l.stamps l.steps t × (l.steps < 2 ^ 64 - 1)
kept_in k l t s begun is =
    subst (λ (x : Kept). HoldsBetweenSteps x.plan x.before x.stamps x.steps t × (x.steps < 2 ^ 64 - 1)) (sym is)
    (subst (λ (x : State). HoldsBetweenSteps k.plan x k.stamps k.steps t) (sym begun.before) begun.kept, begun.room)

-- a request to the site itself takes no slot away
pub none_away : StepsTakeNoneAway → (k l : Kept) (t : Table) (numbers : List ℕ) (r : Request) (o : Node) → IsBegun k t → IsSoundFor k.plan k.now → IsDone k l (act_itself locate k.plan k.now numbers r k.time) o
    → TakesNoneAway l.plan l.before l.now
none_away laws k l t numbers r o begun sound done =
    let s : State = (act_itself locate k.plan k.now numbers r k.time).0 in
    subst (λ (x : Kept). TakesNoneAway x.plan x.before x.now) (sym done.after)
    (subst (λ (x : State). TakesNoneAway k.plan x s) (sym begun.before) (laws locate k.plan k.now numbers r k.time begun.kept.made begun.kept.points sound.paths_differ))

pub stays_by : (k l : Kept) (s : State) → l ≡ with_now k s → l ≡ with_now k l.now
stays_by k l s is = is ∙ ap (with_now k) (sym (ap (λ (x : Kept). x.now) is))
