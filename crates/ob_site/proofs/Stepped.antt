-- A step put together from its parts.
use Rattle.std.proofs.Common.{◌≡◌, ℕ, ◌<◌, ◌-◌, ◌^◌, max, refl, sym, ap, ap₂, ◌∙◌, subst}
use Rattle.ob_object.specs.Object.{Object}
use Rattle.ob_tree.specs.Trees.{Stamped}
use Rattle.ob_watching.specs.Watches.{World, acted, begun, ended}
use Rattle.ob_site_rules.specs.declared.request.Request.{Request}
use Rattle.ob_site_rules.specs.Locating.{locate}
use Rattle.ob_site_rules.specs.Replies.{sent}
use Rattle.ob_site_rules.specs.Sites.{SiteState, step}
use Rattle.ob_site_rules.specs.declared.plan.Plan.{Plan}
use Rattle.ob_site_rules.specs.State.{State, roll}
use Rattle.ob_site_state.specs.Kept.{Kept}
use Rattle.ob_site_state.specs.Stamping.{tree_of}
use Rattle.ob_watch.specs.AsRules.{world_of}
use Rattle.ob_watch.specs.OfPlan.{of_plan}
use Rattle.ob_watch.specs.Tables.{Table, lapsed_at}
use Rattle.ob_watch.proofs.LawLemmas.{tables_agree}
use Rattle.ob_site.specs.Between.{HoldsBetweenSteps, IsBegun, IsSite}
use Rattle.ob_site.specs.Steps.{acting, IsAnswered, IsUnanswered}
use Rattle.ob_site.specs.Views.{site_of}
use Rattle.ob_site.proofs.Sound.{sound_step}

-- a state whose step has begun
abbrev pub at_moment : Kept → ℕ → Kept
at_moment k moment = record k { time = max k.time moment }

module _ (k n : Kept) (t u : Table) (r : Request) (moment : ℕ) (o : Object) where
  abbrev now : ℕ
  now = max k.time moment

  -- what the definitions begin the step with
  begins : world_of k.plan now k.now (tree_of k) (lapsed_at now t) ≡ begun (of_plan k.plan) (world_of k.plan k.time k.now (tree_of k) t) moment
  begins = sym ((tables_agree k.plan (tree_of k)).begins k.time k.now t moment)

  abbrev done : World (of_plan k.plan) → World (of_plan k.plan) × Object
  done w = let both = acted (of_plan k.plan) w r ((of_plan k.plan).target r) in (ended (of_plan k.plan) k.now both.0, sent k.plan both.1)

  abbrev whole : Plan → ℕ → SiteState
  whole plan time = record { plan = plan; world = world_of plan time n.now (tree_of n) u }

  stepped_at : IsAnswered (at_moment k moment) n t u r ((of_plan k.plan).target r) o → (site_of n u, o) ≡ step locate (site_of k t) r moment
  stepped_at is = λ i. (sites i, replies i)
    where
      sites : site_of n u ≡ (step locate (site_of k t) r moment).0
      sites =
          ap₂ whole is.plan is.time
          ∙ ap (λ (w : World (of_plan k.plan)). let st : SiteState = record { plan = k.plan; world = w } in st) (is.world ∙ ap (λ (w : World (of_plan k.plan)). (done w).0) begins)

      replies : o ≡ (step locate (site_of k t) r moment).1
      replies = is.reply ∙ ap (λ (w : World (of_plan k.plan)). (done w).1) begins

  still_site : IsSite k t → IsAnswered (at_moment k moment) n t u r ((of_plan k.plan).target r) o → IsSite n u
  still_site site is = record {
    since = is.since ∙ sym is.time;
    before = is.before;
    kept = is.kept;
    sound = sound_step (site_of k t) (site_of n u) r moment o site.sound (stepped_at is);
  }

-- a step has begun
pub begun_so : (k l : Kept) (t : Table) (moment : ℕ) → IsSite k t → k.steps < 2 ^ 64 - 1 → l ≡ at_moment k moment → IsBegun l t
begun_so k l t moment site room is =
    subst (λ (x : Kept). IsBegun x t) (sym is) (record { before = site.before; rolled = site.sound.of_watches.rolled; kept = site.kept; room = room })

-- and was answered
abbrev IsAnsweredAs : Kept → Kept → Table → Table → Request → Object → Type 0
IsAnsweredAs l n t u r o = IsAnswered l n t u r ((of_plan l.plan).target r) o

pub stepped : (old : SiteState) (k l n : Kept) (t u : Table) (r : Request) (moment : ℕ) (o : Object) → site_of k t ≡ old → l ≡ at_moment k moment
    → IsAnswered l n t u r ((of_plan l.plan).target r) o → (site_of n u, o) ≡ step locate old r moment
stepped old k l n t u r moment o same is answered =
    stepped_at k n t u r moment o (subst (λ (x : Kept). IsAnsweredAs x n t u r o) is answered) ∙ ap (λ (st : SiteState). step locate st r moment) same

pub site_after : (k l n : Kept) (t u : Table) (r : Request) (moment : ℕ) (o : Object) → IsSite k t → l ≡ at_moment k moment
    → IsAnswered l n t u r ((of_plan l.plan).target r) o → IsSite n u
site_after k l n t u r moment o site is answered = still_site k n t u r moment o site (subst (λ (x : Kept). IsAnsweredAs x n t u r o) is answered)

-- a step that was taken back
back : (k l n : Kept) (t u : Table) (moment : ℕ) → IsSite k t → l ≡ at_moment k moment → IsUnanswered l n t u → (let m : Kept = record n { now = n.before; time = n.since } in m) ≡ k
back k l n t u moment site is none =
    ap (λ (x : Kept). let m : Kept = record x { now = x.before; time = x.since } in m) (none.state ∙ ap (λ (x : Kept). let m : Kept = record x { now = n.now } in m) is)
    ∙ ap₂ (λ (s : State) (time : ℕ). let m : Kept = record k { now = s; time = time } in m) site.before site.since

pub undone : (k l n m : Kept) (t u : Table) (moment : ℕ) → IsSite k t → l ≡ at_moment k moment → IsUnanswered l n t u → m ≡ record n { now = n.before; time = n.since } → m ≡ k
undone k l n m t u moment site is none all = all ∙ back k l n t u moment site is none

pub same_again : (k m : Kept) (t u : Table) → m ≡ k → u ≡ t → site_of m u ≡ site_of k t
same_again k m t u a b = ap₂ (λ (x : Kept) (y : Table). site_of x y) a b

pub site_again : (k m : Kept) (t u : Table) → IsSite k t → m ≡ k → u ≡ t → IsSite m u
site_again k m t u site a b = subst (λ (x : Kept). IsSite x u) (sym a) (subst (λ (y : Table). IsSite k y) (sym b) site)

-- told of a state that is the same
pub left_so : (old same new : SiteState) (r : Request) (moment : ℕ) (o : Object) → (new, o) ≡ step locate same r moment → same ≡ old → step locate old r moment ≡ (new, o)
left_so old same new r moment o is e = sym (is ∙ ap (λ (st : SiteState). step locate st r moment) e)
