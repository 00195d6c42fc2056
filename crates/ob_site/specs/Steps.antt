-- What a request makes of a state in place and of marked watches, as the definitions have it (oBIX 1.1, chapters 5, 10 and 12).
use Rattle.std.specs.Prelude.{◌≡◌, ℕ}
use Rattle.ob_object.specs.Object.{Object}
use Rattle.ob_tree.specs.Trees.{Stamped}
use Rattle.ob_watching.specs.Watches.{World, Reply, acted, ended}
use Rattle.ob_site_rules.specs.declared.request.Request.{Request}
use Rattle.ob_site_rules.specs.Replies.{sent}
use Rattle.ob_site_rules.specs.State.{State, roll}
use Rattle.ob_site_rules.specs.Watched.{SiteTarget}
use Rattle.ob_site_state.specs.Kept.{Kept}
use Rattle.ob_site_state.specs.Stamping.{tree_of}
use Rattle.ob_watch.specs.AsRules.{world_of}
use Rattle.ob_watch.specs.OfPlan.{of_plan}
use Rattle.ob_watch.specs.Tables.{Table, lapsed_at}
use Rattle.ob_site.specs.Between.{HoldsBetweenSteps}
use Rattle.ob_site.specs.Keeping.{Stepping}

-- what a request does from a state at its time, before the step ends; the watches whose lease has run out are gone
abbrev pub acting : (k : Kept) → Table → Request → SiteTarget → World (of_plan k.plan) × Reply (of_plan k.plan)
acting k t r target = acted (of_plan k.plan) (world_of k.plan k.time k.now (tree_of k) (lapsed_at k.time t)) r target

-- and the whole step: what it leaves once it has ended, and its reply
abbrev pub step_of : (k : Kept) → Table → Request → SiteTarget → Stepping
step_of k t r target = record {
  request = r;
  target = target;
  site = k.now;
  next = t.next;
  left = ended (of_plan k.plan) k.now (acting k t r target).0;
  reply = sent k.plan (acting k t r target).1;
}

-- The watches after a request to this target that leaves the state as it is, and the reply. Watches whose lease has run out count
-- as gone, before and after.
pub record IsQuiet (k : Kept) (t u : Table) (r : Request) (target : SiteTarget) (o : Object) : Type 0 where
  pub world : world_of k.plan k.time k.now (tree_of k) (lapsed_at k.time u) ≡ (acting k t r target).0
  pub reply : o ≡ sent k.plan (acting k t r target).1

-- The state and the watches after a request to this target, once its step has ended, and the reply.
pub record IsAnswered (k n : Kept) (t u : Table) (r : Request) (target : SiteTarget) (o : Object) : Type 0 where
  pub plan : n.plan ≡ k.plan
  pub time : n.time ≡ k.time
  pub since : n.since ≡ k.time
  pub before : n.before ≡ n.now
  pub world : world_of k.plan k.time n.now (tree_of n) u ≡ ended (of_plan k.plan) k.now (acting k t r target).0
  pub reply : o ≡ sent k.plan (acting k t r target).1
  pub kept : HoldsBetweenSteps n.plan n.now n.stamps n.steps u

-- an error leaves the watches, and all of the state but what is now
pub record IsUnanswered (k n : Kept) (t u : Table) : Type 0 where
  pub state : n ≡ record k { now = n.now }
  pub watches : u ≡ t
