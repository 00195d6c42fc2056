-- The end of a step: the nodes that it has changed are stamped, and the state rolls.
use Rattle.std.specs.Prelude.{◌≡◌, ℕ}
use Rattle.ob_object.specs.Object.{parts}
use Rattle.ob_tree.specs.Depths.{levels}
use Rattle.ob_tree.specs.Shown.{row}
use Rattle.ob_watching.specs.Watches.{ended}
use Rattle.ob_site_rules.specs.Build.{Path}
use Rattle.ob_site_rules.specs.State.{State}
use Rattle.ob_site_state.specs.Kept.{Kept}
use Rattle.ob_site_state.specs.Stamping.{tree_of}
use Rattle.ob_site_settling.specs.Ending.{IsOwnBy}
use Rattle.ob_watch.specs.declared.item.Tracked.{Tracked}
use Rattle.ob_watch.specs.AsRules.{world_of}
use Rattle.ob_watch.specs.OfPlan.{of_plan}
use Rattle.ob_watch.specs.Tables.{Table, lapsed_at}
use Rattle.ob_site.specs.Between.{HoldsBetweenSteps}

-- A step moves no own node, and what could be watched before it can be after it.
pub record NodesStay (before now : State) : Type 0 where
  pub count : parts now.tree ≡ parts before.tree
  pub nested : levels (row now.tree) ≡ levels (row before.tree)
  pub own : (path : Path) (k : Tracked) → IsOwnBy before.tree path k → IsOwnBy now.tree path k

-- The state and the watches at the end of a step, in the middle of which they were the first ones.
pub record IsEnded (k n : Kept) (t u : Table) : Type 0 where
  pub plan : n.plan ≡ k.plan
  pub time : n.time ≡ k.time
  pub since : n.since ≡ k.time
  pub before : n.before ≡ n.now
  pub count : parts k.now.tree ≡ parts k.before.tree
  pub world : world_of k.plan k.time n.now (tree_of n) u ≡ ended (of_plan k.plan) k.before (world_of k.plan k.time k.now (tree_of k) (lapsed_at k.time t))
  pub kept : HoldsBetweenSteps n.plan n.now n.stamps n.steps u
