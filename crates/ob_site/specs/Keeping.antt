-- What is kept of a step, before anything of it counts: what the site's next life needs, and no more (this project's own).
use Rattle.std.specs.Prelude.{◌≡◌, ◌≢◌, ◌⊎◌, ℕ, ◌+◌, ◌≤◌, true, false}
use Rattle.ob_values.specs.declared.verb.Verb.{Verb}
use Rattle.ob_values.specs.declared.verb.Verb.TheVariants.{Get}
use Rattle.ob_object.specs.Object.{Object}
use Rattle.ob_history.specs.declared.records.Filter.{Filter}
use Rattle.ob_watching.specs.Operations.{Itself, NewWatch}
use Rattle.ob_watching.specs.Watches.{WorldOf, first_lease}
use Rattle.ob_site_rules.specs.declared.request.Request.{Request}
use Rattle.ob_site_rules.specs.Build.{Path, Text}
use Rattle.ob_site_rules.specs.Computed.{watch_part_object}
use Rattle.ob_site_rules.specs.declared.watch_part.WatchPart.TheVariants.{Whole}
use Rattle.ob_site_rules.specs.Sites.{SiteState}
use Rattle.ob_site_rules.specs.declared.plan.Plan.{Plan}
use Rattle.ob_site_rules.specs.State.{State, roll}
use Rattle.ob_site_rules.specs.Watched.{SiteTarget}
use Rattle.ob_site_laws.specs.SiteLaws.{acts, of_plan}
use Rattle.ob_watch.specs.Adding.{is_full_at}
use Rattle.ob_watch.specs.Tables.{Table}

-- time, site, watches and the number of the next watch
abbrev pub SiteWorld : Type 0
SiteWorld = WorldOf State Text Path Filter

-- A step: the request and whom it is for; the site and the number of the next watch before it; and what it leaves, and the reply.
pub record Stepping : Type 0 where
  pub request : Request
  pub target : SiteTarget
  pub site : State
  pub next : ℕ
  pub left : SiteWorld
  pub reply : Object

-- the step of a request at a moment
abbrev pub stepping : SiteState → Request → ℕ → Stepping
stepping st r moment = record {
  request = r;
  target = (of_plan st.plan).target r;
  site = st.world.site;
  next = st.world.next;
  left = (acts st r moment).0.world;
  reply = (acts st r moment).1;
}

-- The step of a request in which the site became `now` of `before` has changed it: what was set and set back is as it was.
abbrev pub IsChange : (before now : State) → Verb → Type 0
IsChange before now verb = (verb ≢ Get) × (roll now ≢ before)

-- below k is the first number of a watch that can't have been given, by what k has kept; and keeps k l says that l has kept a
-- request more than k, with the site's time at it, the number of the next watch after it, and the reply
module _ {K : Type 0} (below : K → ℕ) (keeps : K → K → Request → ℕ → ℕ → Object → Type 0) where
  -- the request of a step, as it is kept
  abbrev pub HasKept : K → K → Stepping → Type 0
  HasKept k l s = keeps k l s.request s.left.time s.left.next s.reply

  -- A request was kept: one for the site itself, and no read. The step changes the site, so that no refused write is kept, nor one
  -- of an equal value.
  pub record KeepsRequest (k l : K) (s : Stepping) : Type 0 where
    pub target : s.target ≡ Itself
    pub verb : s.request.verb ≢ Get
    pub changed : s.left.site ≢ s.site
    pub kept : HasKept k l s

  -- A make was kept. The step makes a watch, whose number can't have been given, by what was kept before.
  pub record KeepsMake (k l : K) (s : Stepping) : Type 0 where
    pub target : s.target ≡ NewWatch
    pub made : s.left.next ≡ s.next + 1
    pub beyond : below k ≤ s.next
    pub kept : HasKept k l s

  -- Nothing was kept. The step leaves the site as it was; and it gives no number, or one that may have been given by what was kept.
  pub record KeepsNothing (k l : K) (s : Stepping) : Type 0 where
    pub keeper : l ≡ k
    pub site : s.left.site ≡ s.site
    pub next : (s.left.next ≡ s.next) ⊎ (s.left.next ≤ below k)

  -- what a step that was done made of its keeper
  abbrev pub Keeps : K → K → Stepping → Type 0
  Keeps k l s = KeepsNothing k l s ⊎ (KeepsRequest k l s ⊎ KeepsMake k l s)

  -- What a request to the site itself made of its keeper, before the step ends in which the site became `now` of `before`: nothing,
  -- where it is as it was or the request is a read; or else the request was kept.
  abbrev pub KeepsChange : K → K → (before now : State) → Request → (time next : ℕ) → Object → Type 0
  KeepsChange k l before now r time next reply =
      ((l ≡ k) × ((now ≡ before) ⊎ (r.verb ≡ Get))) ⊎ (IsChange before now r.verb × keeps k l r time next reply)

  -- A make was kept, since there was a place for one more watch, and its number can't have been given.
  pub record KeepsNext (k l : K) (plan : Plan) (now : ℕ) (t : Table) (r : Request) : Type 0 where
    pub place : is_full_at now t ≡ false
    pub beyond : below k ≤ t.next
    pub kept : keeps k l r now (t.next + 1) (watch_part_object plan t.next first_lease Whole)

  -- What a request for a new watch made of its keeper, of the watches from before it: nothing, where there is no place for one more or
  -- its number may have been given; or else it was kept.
  abbrev pub KeepsPlace : K → K → Plan → ℕ → Table → Request → Type 0
  KeepsPlace k l plan now t r =
      ((l ≡ k) × ((is_full_at now t ≡ true) ⊎ (t.next + 1 ≤ below k))) ⊎ KeepsNext k l plan now t r

-- What a step that was not done, for want of memory or by an error of its keeper, made of it: nothing; or what an error may have
-- left of it.
abbrev pub MayKeep : {K : Type 0} → (K → ℕ) → (may_keep : K → K → Request → ℕ → ℕ → Object → Type 0) → K → K → Stepping → Type 0
MayKeep below may_keep k l s = (l ≡ k) ⊎ (KeepsRequest below may_keep k l s ⊎ KeepsMake below may_keep k l s)
