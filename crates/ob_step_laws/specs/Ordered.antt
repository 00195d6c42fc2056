-- What else holds of the state that a document opens.
use Rattle.std.specs.Prelude.{◌≡◌, ℕ, ◌≤◌, ◌<◌, ◌≤ℤ◌, true, false, min, map, List, Some, None, Ok}
use Rattle.std.specs.List.{AllByRecursion, flat_map}
use Rattle.ob_times.specs.Times.{Instant, instant, moment_instant}
use Rattle.ob_object.specs.Object.{Object}
use Rattle.ob_object.specs.Paths.{node_path}
use Rattle.ob_history.specs.declared.records.Record.{Record}
use Rattle.ob_history.specs.Records.{InOrder}
use Rattle.ob_site_rules.specs.Build.{Path}
use Rattle.ob_site_rules.specs.State.{Log, State, board, is_among, roll}
use Rattle.ob_site_rules.specs.declared.plan.Plan.{Plan}
use Rattle.ob_site_rules.specs.Writes.{stored}
use Rattle.ob_site_rules.specs.Sites.{SiteState}
use Rattle.ob_site_rules.specs.Opening.{opening}
use Rattle.ob_site_rules.specs.Loading.{Part, row_of, is_computed, bad_part, histories_in, path_of, capacity_of, records_of, ms_up, greatest, last_moment}
use Rattle.ob_step_laws.specs.Laws.{Apart, row_paths}
use Rattle.ob_step_laws.specs.Consistent.{IsConsistent}

-- a state that is consistent once its histories have rolled was so before
abbrev pub UnrolledIsConsistent : Type 0
UnrolledIsConsistent = (plan : Plan) (s : State) → IsConsistent plan (roll s) → IsConsistent plan s

-- a record isn't after a moment
abbrev pub IsBy : ℕ → Record → Type 0
IsBy now r = r.time.nanos < 1_000_000_000 → instant r.time ≤ℤ instant (moment_instant now)

-- The root's path is the base's, and the one of the tree. No two nodes of the tree have one path, and none has one that the site
-- computes. No two histories have one path, each is a node, and the logs are theirs, in their order. No two rules have one source.
-- No more is stored than may be. The records of each log are in order, and none is after the time.
pub record IsOrdered (st : SiteState) : Type 0 where
  pub base : st.plan.root ≡ st.plan.base.path
  pub root : node_path st.world.site.tree.head ≡ Some st.plan.root
  pub apart : Apart (row_paths (row_of st.world.site.tree))
  pub free : AllByRecursion (λ p. is_computed st.plan.root p ≡ false) (row_paths (row_of st.world.site.tree))
  pub histories : Apart (map (λ h. h.0) st.plan.histories)
  pub nodes : (p : Path) → is_among p (map (λ h. h.0) st.plan.histories) ≡ true → is_among p (row_paths (row_of st.world.site.tree)) ≡ true
  pub logs : map (λ l. l.0) st.world.site.logs ≡ map (λ h. h.0) st.plan.histories
  pub sources : Apart (map (λ r. r.source) st.plan.rules)
  pub stored : stored st.world.site.logs (board st.plan st.world.site) ≤ 1_000_000
  pub in_order : AllByRecursion (λ l. InOrder l.1.kept) st.world.site.logs
  pub in_time : AllByRecursion (λ l. AllByRecursion (IsBy st.world.time) l.1.kept) st.world.site.logs

-- So is each state that a document opens.
abbrev pub OpensOrdered : Type 0
OpensOrdered = (root : Object) (boot : ℕ) (st : SiteState) → opening root boot ≡ Ok st → IsOrdered st

-- the logs of histories before they roll
abbrev pub whole_log : Part → Log
whole_log q = record { capacity = capacity_of q; gone = 0; kept = records_of q }

-- the log of each history with all the records that its file gives, none rolled off
abbrev pub whole_logs : List Part → List (Path × Log)
whole_logs ps = map (λ q. (path_of q, whole_log q)) (histories_in ps)

-- the first moment that isn't before an instant, of those that there are
abbrev pub moment_from : Instant → ℕ
moment_from t = min (ms_up t) last_moment

-- the first moment that isn't before the boot, nor before a record
abbrev pub opening_time : ℕ → List (Path × Log) → ℕ
opening_time boot ls = greatest boot (flat_map (λ l. map (λ r. moment_from r.time) l.1.kept) ls)

-- The time of the opening is told by the logs before they roll, where no part is bad.
abbrev pub OpensInTime : Type 0
OpensInTime = (ps : List Part) → bad_part ps ≡ None → (boot : ℕ) →
    opening_time boot (whole_logs ps) ≡ greatest boot (map (λ r. ms_up r.time) (flat_map records_of (histories_in ps)))
