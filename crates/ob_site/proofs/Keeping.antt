-- What a step makes of its keeper.
use Rattle.std.proofs.Common.{◌≡◌, ◌≢◌, ◌≤◌, ℕ, ◌+◌, max, Bool, true, false, cond, List, Option, Some, None, refl, sym, ap, ◌∙◌, subst, inl, inr}
use Rattle.std.specs.Prelude.{◌⊎◌, Result, Ok, Err, OnOk, OnErr}
use Rattle.ob_values.specs.declared.verb.Verb.{Verb}
use Rattle.ob_values.specs.declared.verb.Verb.TheVariants.{Get}
use Rattle.ob_object.specs.Object.{Object}
use Rattle.ob_history.specs.declared.records.Filter.{Filter}
use Rattle.ob_watching.specs.Operations.{Itself, NewWatch, Nowhere, OneWatch, Refused, Told}
use Rattle.ob_watching.specs.Tables.{lookup, numbers_of}
use Rattle.ob_watching.specs.Watches.{World, Reply, WatchOf, acted, begun, ended, first_lease, is_full, made, on_watch}
use Rattle.ob_site_rules.specs.declared.request.Request.{Request}
use Rattle.ob_site_rules.specs.Actions.{act_on, act_located, act_itself}
use Rattle.ob_site_rules.specs.Build.{Path, Text}
use Rattle.ob_site_rules.specs.Computed.{watch_part_object}
use Rattle.ob_site_rules.specs.declared.fault.Fault.TheVariants.{TooManyWatches}
use Rattle.ob_site_rules.specs.Locating.{locate}
use Rattle.ob_site_rules.specs.declared.watch_part.WatchPart.TheVariants.{Whole}
use Rattle.ob_site_rules.specs.declared.resource.Resource.{Resource}
use Rattle.ob_site_rules.specs.declared.resource.Resource.TheVariants.{Batch}
use Rattle.ob_site_rules.specs.Places.{place_at}
use Rattle.ob_site_rules.specs.Replies.{sent}
use Rattle.ob_site_rules.specs.Sites.{SiteState}
use Rattle.ob_site_rules.specs.declared.plan.Plan.{Plan}
use Rattle.ob_site_rules.specs.State.{State, roll}
use Rattle.ob_site_rules.specs.Watched.{WatchOperation}
use Rattle.ob_site_state.specs.Kept.{Kept}
use Rattle.ob_site_state.specs.Stamping.{tree_of}
use Rattle.ob_site_watches.specs.Answers.{IsMade}
use Rattle.ob_site_watches.proofs.Made.{one_more}
use Rattle.ob_site_actions.specs.Stops.{IsDone}
use Rattle.ob_watch.specs.AsRules.{world_of}
use Rattle.ob_watch.specs.OfPlan.{of_plan}
use Rattle.ob_watch.specs.Flags.{flags_of}
use Rattle.ob_watch.specs.Adding.{is_full_at}
use Rattle.ob_watch.specs.Tables.{Table, lapsed_at, live, yielded_at}
use Rattle.ob_watch.proofs.LawLemmas.{tables_agree}
use Rattle.ob_site.specs.Between.{IsBegun}
use Rattle.ob_site.specs.Keeping.{Stepping, stepping, IsChange, Keeps, KeepsChange, KeepsMake, KeepsNext, KeepsNothing, KeepsPlace, KeepsRequest, MayKeep}
use Rattle.ob_site.specs.Steps.{step_of}
use Rattle.ob_site.specs.Views.{site_of}
use Rattle.ob_site.proofs.Stepped.{at_moment}

-- ---- a read leaves the site as it was

module _ (plan : Plan) (s : State) (ns : List ℕ) (now : ℕ) (target : Text) (body : Option Object) where
  abbrev read : Request
  read = record { verb = Get; target = target; body = body }

  read_on : (p : Path) (place : Option Resource) → (act_on locate plan s ns now read p place).0 ≡ s
  read_on p None = refl
  read_on p (Some Batch) = refl
  read_on p (Some place) = refl

  read_located : (p : Option Path) → (act_located locate plan s ns now read p).0 ≡ s
  read_located None = refl
  read_located (Some p) = read_on p (place_at plan s p)

abbrev pub acts_on : Kept → List ℕ → Request → State × Object
acts_on k numbers r = act_itself locate k.plan k.now numbers r k.time

-- so of the site in place
pub read_leaves : (k : Kept) (numbers : List ℕ) (r : Request) → r.verb ≡ Get → (acts_on k numbers r).0 ≡ k.now
read_leaves k numbers r is =
    subst (λ (verb : Verb). (acts_on k numbers (record { verb = verb; target = r.target; body = r.body })).0 ≡ k.now) (sym is)
    (read_located k.plan k.now numbers k.time r.target r.body (locate k.plan.base r.target))

-- ---- a step that has begun

module _ (k : Kept) (t : Table) (r : Request) where
  -- the watches that stand, and their numbers
  abbrev numbers : List ℕ
  numbers = numbers_of (live k.time t.watches)

  abbrev acted_on : State × Object
  acted_on = acts_on k numbers r

  abbrev world : World (of_plan k.plan)
  world = world_of k.plan k.time k.now (tree_of k) (lapsed_at k.time t)

  same_numbers : numbers_of (flags_of (tree_of k) (live k.time t.watches)) ≡ numbers
  same_numbers = (tables_agree k.plan (tree_of k)).numbers (live k.time t.watches)

  -- the watches that stand once idle ones have given way
  abbrev after_way : World (of_plan k.plan)
  after_way = world_of k.plan k.time k.now (tree_of k) (yielded_at k.time (lapsed_at k.time t))

  -- a step that makes a watch, unless no more can be made
  abbrev making : Bool → World (of_plan k.plan) → Stepping
  making b v =
      let done : World (of_plan k.plan) × Reply (of_plan k.plan) = cond b (world, Refused TooManyWatches) (made (of_plan k.plan) v, Told v.next first_lease Whole) in
      record { request = r; target = NewWatch; site = k.now; next = t.next; left = ended (of_plan k.plan) k.now done.0; reply = sent k.plan done.1 }

  made_by : (b : Bool) → is_full_at k.time t ≡ b → step_of k t r NewWatch ≡ making b after_way
  made_by b h =
      ap (λ (v : World (of_plan k.plan)). making (is_full (of_plan k.plan) v) v) ((tables_agree k.plan (tree_of k)).yields k.time k.now (lapsed_at k.time t))
      ∙ ap (λ (c : Bool). making c after_way) ((tables_agree k.plan (tree_of k)).full k.time k.now (yielded_at k.time (lapsed_at k.time t)) ∙ h)

  -- a step that asks something of a watch, if it stands
  abbrev asking : ℕ → WatchOperation → Option (WatchOf Text Path Filter) → Stepping
  asking n op found =
      let done : World (of_plan k.plan) × Reply (of_plan k.plan) = on_watch (of_plan k.plan) world n op found in
      record { request = r; target = OneWatch n op; site = k.now; next = t.next; left = ended (of_plan k.plan) k.now done.0; reply = sent k.plan done.1 }

  module _ {K : Type 0} (below : K → ℕ) (keeps : K → K → Request → ℕ → ℕ → Object → Type 0) (a l : K) where
    -- ---- a request to the site itself

    unchanged_so : IsBegun k t → l ≡ a → acted_on.0 ≡ k.now → KeepsNothing below keeps a l (step_of k t r Itself)
    unchanged_so is same e = record {
      keeper = same;
      site = ap (λ (ns : List ℕ). roll (acts_on k ns r).0) same_numbers ∙ ap roll e ∙ is.rolled;
      next = inl refl;
    }

    request_so : (o : Object) → r.verb ≢ Get → (step_of k t r Itself).left.site ≢ k.now → o ≡ acted_on.1 → keeps a l r k.time t.next o → KeepsRequest below keeps a l (step_of k t r Itself)
    request_so o verb changed e kept = record {
      target = refl;
      verb = verb;
      changed = changed;
      kept = subst (λ (x : Object). keeps a l r k.time t.next x) (e ∙ ap (λ (ns : List ℕ). (acts_on k ns r).1) (sym same_numbers)) kept;
    }

    -- the same of the state in the middle of the step
    done_so : (m : Kept) (o : Object) → IsBegun k t → IsDone k m acted_on o → IsChange m.before m.now r.verb → keeps a l r m.time t.next o → KeepsRequest below keeps a l (step_of k t r Itself)
    done_so m o is done change kept =
        request_so o change.0 (λ same. change.1 (
        ap (λ (x : Kept). roll x.now) done.after
        ∙ sym (ap (λ (ns : List ℕ). roll (acts_on k ns r).0) same_numbers)
        ∙ same
        ∙ sym is.before
        ∙ sym (ap (λ (x : Kept). x.before) done.after)
        )) done.answer (subst (λ (time : ℕ). keeps a l r time t.next o) (ap (λ (x : Kept). x.time) done.after) kept)

    -- a read keeps nothing
    pub read_keeps : IsBegun k t → l ≡ a → r.verb ≡ Get → Keeps below keeps a l (step_of k t r Itself)
    read_keeps is same get = inl (unchanged_so is same (read_leaves k numbers r get))

    pub change_so : (m : Kept) (o : Object) → IsBegun k t → IsDone k m acted_on o → KeepsChange below keeps a l m.before m.now r m.time t.next o → Keeps below keeps a l (step_of k t r Itself)
    change_so m o is done (inl (same, inl e)) =
        inl (unchanged_so is same (sym (ap (λ (x : Kept). x.now) done.after) ∙ e ∙ ap (λ (x : Kept). x.before) done.after ∙ is.before))
    change_so m o is done (inl (same, inr get)) = read_keeps is same get
    change_so m o is done (inr (change, kept)) = inr (inl (done_so m o is done change kept))

    -- ---- a request for a new watch

    pub next_so : KeepsNext below keeps a l k.plan k.time t r → KeepsMake below keeps a l (step_of k t r NewWatch)
    next_so next =
        subst (KeepsMake below keeps a l) (sym (made_by false next.place))
        (record { target = refl; made = refl; beyond = next.beyond; kept = next.kept })

    refused_so : IsBegun k t → l ≡ a → is_full_at k.time t ≡ true → KeepsNothing below keeps a l (step_of k t r NewWatch)
    refused_so is same full =
        subst (KeepsNothing below keeps a l) (sym (made_by true full))
        (record { keeper = same; site = is.rolled; next = inl refl })

    passed_so : IsBegun k t → l ≡ a → t.next + 1 ≤ below a → (b : Bool) → is_full_at k.time t ≡ b → KeepsNothing below keeps a l (step_of k t r NewWatch)
    passed_so is same passed true full = refused_so is same full
    passed_so is same passed false place =
        subst (KeepsNothing below keeps a l) (sym (made_by false place))
        (record { keeper = same; site = is.rolled; next = inr passed })

    pub place_so : IsBegun k t → KeepsPlace below keeps a l k.plan k.time t r → Keeps below keeps a l (step_of k t r NewWatch)
    place_so is (inl (same, inl full)) = inl (refused_so is same full)
    place_so is (inl (same, inr passed)) = inl (passed_so is same passed (is_full_at k.time t) refl)
    place_so is (inr next) = inr (inr (next_so next))

    -- ---- a request to a watch, or to nothing

    pub nowhere_so : IsBegun k t → l ≡ a → KeepsNothing below keeps a l (step_of k t r Nowhere)
    nowhere_so is same = record { keeper = same; site = is.rolled; next = inl refl }

    asked_so : IsBegun k t → l ≡ a → (n : ℕ) (op : WatchOperation) (found : Option (WatchOf Text Path Filter)) → KeepsNothing below keeps a l (asking n op found)
    asked_so is same n op None = record { keeper = same; site = is.rolled; next = inl refl }
    asked_so is same n op (Some w) = record { keeper = same; site = is.rolled; next = inl refl }

    pub watch_so : IsBegun k t → l ≡ a → (n : ℕ) (op : WatchOperation) → KeepsNothing below keeps a l (step_of k t r (OneWatch n op))
    watch_so is same n op = asked_so is same n op (lookup n world.watches)

  module _ {K : Type 0} (below : K → ℕ) (may_keep : K → K → Request → ℕ → ℕ → Object → Type 0) (a l : K) where
    -- the same where the step is not done
    pub may_change_so : (m : Kept) (o : Object) → IsBegun k t → IsDone k m acted_on o → (l ≡ a) ⊎ (IsChange m.before m.now r.verb × may_keep a l r m.time t.next o) → MayKeep below may_keep a l (step_of k t r Itself)
    may_change_so m o is done (inl same) = inl same
    may_change_so m o is done (inr (change, kept)) = inr (inl (done_so below may_keep a l m o is done change kept))

    pub may_next_so : (l ≡ a) ⊎ KeepsNext below may_keep a l k.plan k.time t r → MayKeep below may_keep a l (step_of k t r NewWatch)
    may_next_so (inl same) = inl same
    may_next_so (inr next) = inr (inr (next_so below may_keep a l next))

-- ---- a make

-- in the words of the state
pub made_in : (told plan : Plan) (now time : ℕ) (t u : Table) (o : Object) → told ≡ plan → now ≡ time → IsMade told now t u o → IsMade plan time t u o
made_in told plan now time t u o is same made = subst (λ (p : Plan). IsMade p time t u o) is (subst (λ (n : ℕ). IsMade told n t u o) same made)

-- one that needs no keeping
pub left_out_so : {K : Type 0} (below : K → ℕ) (keeps : K → K → Request → ℕ → ℕ → Object → Type 0) (a : K) (plan : Plan) (now time : ℕ) (t : Table) (r : Request) → now ≡ time
    → (is_full_at now t ≡ true) ⊎ (t.next + 1 ≤ below a) → KeepsPlace below keeps a a plan time t r
left_out_so below keeps a plan now time t r same why = inl (refl, subst (λ (n : ℕ). (is_full_at n t ≡ true) ⊎ (t.next + 1 ≤ below a)) same why)

-- The request was kept once the watch was made, with the reply that tells of it.
pub made_next : {K : Type 0} (below : K → ℕ) (keeps : K → K → Request → ℕ → ℕ → Object → Type 0) (a l : K) (told plan : Plan) (now time : ℕ) (t u : Table) (r : Request) (o : Object) (next : ℕ)
    → told ≡ plan → now ≡ time → (is_full_at now t ≡ false) × (below a ≤ t.next) → IsMade told now t u o → next ≡ u.next → keeps a l r now next o → KeepsNext below keeps a l plan time t r
made_next below keeps a l told plan now time t u r o next is same (place, beyond) made next_is kept =
    let more = one_more told now t u o place made in
    subst (λ (n : ℕ). KeepsNext below keeps a l plan n t r) same (record {
      place = place;
      beyond = beyond;
      kept = subst (λ (n : ℕ). keeps a l r now n (watch_part_object plan t.next first_lease Whole)) (next_is ∙ ap (λ (x : Table). x.next) more.table)
          (subst (λ (x : Object). keeps a l r now next x) (more.reply ∙ ap (λ (p : Plan). watch_part_object p t.next first_lease Whole) is) kept);
    })

-- ---- a step as the definitions have it

module _ (k : Kept) (t : Table) (r : Request) (moment : ℕ) where
  abbrev now : ℕ
  now = max k.time moment

  begins : world_of k.plan now k.now (tree_of k) (lapsed_at now t) ≡ begun (of_plan k.plan) (world_of k.plan k.time k.now (tree_of k) t) moment
  begins = sym ((tables_agree k.plan (tree_of k)).begins k.time k.now t moment)

  abbrev step_from : World (of_plan k.plan) → Stepping
  step_from w =
      let both : World (of_plan k.plan) × Reply (of_plan k.plan) = acted (of_plan k.plan) w r ((of_plan k.plan).target r) in
      record { request = r; target = (of_plan k.plan).target r; site = k.now; next = t.next; left = ended (of_plan k.plan) k.now both.0; reply = sent k.plan both.1 }

  begun_step : step_of (at_moment k moment) t r ((of_plan k.plan).target r) ≡ stepping (site_of k t) r moment
  begun_step = ap step_from begins

pub step_is : (old : SiteState) (k l : Kept) (t : Table) (r : Request) (moment : ℕ) → site_of k t ≡ old → l ≡ at_moment k moment
    → step_of l t r ((of_plan l.plan).target r) ≡ stepping old r moment
step_is old k l t r moment same is =
    ap (λ (x : Kept). step_of x t r ((of_plan x.plan).target r)) is ∙ begun_step k t r moment ∙ ap (λ (st : SiteState). stepping st r moment) same

-- a fact that doesn't depend on the result
pub whatever : {A E : Type 0} (r : Result A E) (P : Type 0) → P → OnOk r P
whatever (Ok x) P p = p
whatever (Err e) P p = tt

pub whatever_err : {A E : Type 0} (r : Result A E) (P : Type 0) → P → OnErr r P
whatever_err (Ok x) P p = tt
whatever_err (Err e) P p = p
