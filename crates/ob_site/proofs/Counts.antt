-- How many steps a request counts, by the parts of its step.
use Rattle.std.proofs.Common.{◌≡◌, ℕ, ◌+◌, ◌≤◌, max, sym, ap, ◌∙◌, subst, arith}
use Rattle.ob_object.specs.Object.{Object}
use Rattle.ob_tree.specs.Depths.{levels}
use Rattle.ob_tree.specs.Shown.{row}
use Rattle.ob_watching.specs.Operations.{OneWatch, PollChanges}
use Rattle.ob_watching.specs.Watches.{World, acted, begun}
use Rattle.ob_site_rules.specs.declared.request.Request.{Request}
use Rattle.ob_site_rules.specs.Locating.{locate}
use Rattle.ob_site_rules.specs.Replies.{sent}
use Rattle.ob_site_rules.specs.Sites.{SiteState, step}
use Rattle.ob_site_rules.specs.Watched.{SiteTarget}
use Rattle.ob_site_state.specs.Kept.{Kept}
use Rattle.ob_site_state.specs.Stamping.{tree_of}
use Rattle.ob_site_watches.specs.Polls.{Takes, object_entries, steps_for, steps_in}
use Rattle.ob_site_watches.proofs.Polled.{steps_at_most}
use Rattle.ob_watch.specs.AsRules.{world_of}
use Rattle.ob_watch.specs.OfPlan.{of_plan}
use Rattle.ob_watch.specs.Tables.{Table, lapsed_at}
use Rattle.ob_watch.proofs.LawLemmas.{tables_agree}
use Rattle.ob_site.specs.Between.{IsShallow}
use Rattle.ob_site.specs.Counts.{IsPoll, RequestTakes}
use Rattle.ob_site.specs.Views.{site_of}
use Rattle.ob_site.proofs.Levels.{more_round}
use Rattle.ob_site.proofs.Stepped.{at_moment}

-- what the state counts whose step has begun
abbrev Counts : Kept → Table → Request → ℕ → ℕ → Type 0
Counts l t r old new = Takes l.plan (world_of l.plan l.time l.now (tree_of l) (lapsed_at l.time t)) ((of_plan l.plan).target r) old new

pub counted : (before : SiteState) (k l : Kept) (t : Table) (r : Request) (moment old new : ℕ) → site_of k t ≡ before → l ≡ at_moment k moment → Counts l t r old new → RequestTakes before r moment old new
counted before k l t r moment old new same is counts =
    subst (λ (st : SiteState). RequestTakes st r moment old new) same
    (subst (λ (w : World (of_plan k.plan)). Takes k.plan w ((of_plan k.plan).target r) old new) (sym ((tables_agree k.plan (tree_of k)).begins k.time k.now t moment))
    (subst (λ (x : Kept). Counts x t r old new) is counts))

-- a poll counts at most what the objects that are reported come to
pub counted_at_most : (before left : SiteState) (r : Request) (moment : ℕ) (o : Object) (old new : ℕ) → IsShallow before.world.site.tree → (left, o) ≡ step locate before r moment → IsPoll before r
    → RequestTakes before r moment old new → new ≤ old + steps_for 32 (object_entries o)
counted_at_most before left r moment o old new shallow is poll counts =
    let m = of_plan before.plan in
    let w = begun m before.world moment in
    let target : SiteTarget = OneWatch poll.0 PollChanges in
    let few : new ≤ old + steps_in before.world.site.tree (object_entries (sent before.plan (acted m w r target).1)) =
    steps_at_most before.plan w r poll.0 old new (subst (λ (x : SiteTarget). Takes before.plan w x old new) poll.1 counts) in
    let here : new ≤ old + steps_in before.world.site.tree (object_entries o) =
    subst (λ (x : Object). new ≤ old + steps_in before.world.site.tree (object_entries x)) (sym (ap (λ (both : SiteState × Object). both.1) is))
    (subst (λ (x : SiteTarget). new ≤ old + steps_in before.world.site.tree (object_entries (sent before.plan (acted m w r x).1))) (sym poll.1) few) in
    omega (arith, here, shallow, more_round (levels (row before.world.site.tree)) 32 (object_entries o) shallow)
