-- What the parts of a site owe one another between two steps.
use Rattle.std.specs.Prelude.{◌≡◌, ℕ, ◌<◌, ◌≤◌, ◌-◌, ◌^◌, List, length, replicate}
use Rattle.ob_object.specs.Object.{Object, parts}
use Rattle.ob_object.specs.WellFormed.{IsWellFormed}
use Rattle.ob_step_laws.specs.Given.{IsMade, PointsHaveValues}
use Rattle.ob_site_watches.specs.Known.{IsNumbered}
use Rattle.ob_site_watches.specs.Tables.{AllItems}
use Rattle.ob_site_laws.specs.SiteLaws.{IsSoundSite}
use Rattle.ob_site_open.specs.Opens.{Opens}
use Rattle.ob_site_rules.specs.declared.plan.Plan.{Plan}
use Rattle.ob_site_rules.specs.State.{State, roll}
use Rattle.ob_site_settling.specs.Ending.{IsOwn}
use Rattle.ob_site_state.specs.Kept.{Kept}
use Rattle.ob_tree.specs.Depths.{levels}
use Rattle.ob_tree.specs.Shown.{row}
use Rattle.ob_watch.specs.Marks.{AreStampsPast, IsMarkPast}
use Rattle.ob_watch.specs.Tables.{Table}
use Rattle.ob_site.specs.Views.{site_of, tree_with}

-- an object of as many levels as a document may have (this profile's limit)
abbrev pub IsShallow : Object → Type 0
IsShallow root = levels (row root) ≤ 32

-- The library is the one that the site's contracts make, each writable point is of a kind that has values, and the own objects
-- stand on at most 32 levels. Each own object has a stamp, and no stamp and no mark is of a step to come; each item on an object
-- names an own node that can be watched, and each item on a feed the feed at its path.
pub record HoldsBetweenSteps (plan : Plan) (s : State) (stamps : List ℕ) (steps : ℕ) (t : Table) : Type 0 where
  pub made : IsMade s
  pub points : PointsHaveValues plan s
  pub shallow : IsShallow s.tree
  pub long : length stamps ≡ parts s.tree
  pub past : AreStampsPast (tree_with s stamps steps)
  pub own : AllItems (IsOwn s.tree) t.watches
  pub marks : AllItems (IsMarkPast steps) t.watches
  pub numbered : AllItems (IsNumbered plan) t.watches

-- So it is between two steps, of which the state notes nothing; and the site is sound.
pub record IsSite (k : Kept) (t : Table) : Type 0 where
  pub since : k.since ≡ k.time
  pub before : k.before ≡ k.now
  pub kept : HoldsBetweenSteps k.plan k.now k.stamps k.steps t
  pub sound : IsSoundSite (site_of k t)

-- A step has begun and has changed nothing yet: each history is within its capacity, and one more step can be counted.
pub record IsBegun (k : Kept) (t : Table) : Type 0 where
  pub before : k.before ≡ k.now
  pub rolled : roll k.now ≡ k.now
  pub kept : HoldsBetweenSteps k.plan k.now k.stamps k.steps t
  pub room : k.steps < 2 ^ 64 - 1

-- a state that the root of some document of at most 32 levels opens at some moment
pub record IsOpened (k : Kept) : Type 0 where
  pub root : Object
  pub boot : ℕ
  pub well_formed : IsWellFormed root
  pub shallow : IsShallow root
  pub opens : Opens root boot k
