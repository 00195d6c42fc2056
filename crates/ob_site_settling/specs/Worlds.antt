-- The end of a step on the whole state: all watches at once.
use Rattle.std.specs.Prelude.{◌≡◌, ℕ, List, length}
use Rattle.std.specs.List.{AllByRecursion}
use Rattle.ob_object.specs.Object.{Object, parts}
use Rattle.ob_site_rules.specs.declared.plan.Plan.{Plan}
use Rattle.ob_site_rules.specs.State.{State, roll}
use Rattle.ob_site_rules.specs.Shown.{dressed}
use Rattle.ob_shown_laws.specs.Alike.{row, DifferInValues}
use Rattle.ob_shown_laws.specs.Changed.{PathsDiffer}
use Rattle.ob_tree.specs.Trees.{Stamped}
use Rattle.ob_watching.specs.Watches.{ended}
use Rattle.ob_watch.specs.OfPlan.{of_plan}
use Rattle.ob_watch.specs.Marks.{IsMarkPast}
use Rattle.ob_watch.specs.Tables.{Leased, Table}
use Rattle.ob_watch.specs.AsRules.{world_of}
use Rattle.ob_site_state.specs.Stamping.{after_step}
use Rattle.ob_site_settling.specs.Ending.{AreChanged, IsOwn}

-- each item on an object names an own node that can be watched
abbrev pub AllOwn : Object → List (ℕ × Leased) → Type 0
AllOwn o ws = AllByRecursion (λ e. AllByRecursion (IsOwn o) e.1.items) ws

-- no mark is of a step to come
abbrev pub AllMarksPast : ℕ → List (ℕ × Leased) → Type 0
AllMarksPast steps ws = AllByRecursion (λ e. AllByRecursion (IsMarkPast steps) e.1.items) ws

-- The end of a step of the definitions is that the histories drop what they have too much of, and that the tree is stamped: the
-- watches stay as they are, whatever events came to feeds or rolled off.
pub record WorldEnds (plan : Plan) (s u : State) (ns : List ℕ) (tree : Stamped) (table : Table) : Type 0 where
  pub ends : (time : ℕ)
      → ended (of_plan plan) s (world_of plan time u tree table) ≡ world_of plan time (roll u) (after_step ns tree) table
  pub marks : AllMarksPast (after_step ns tree).steps table.watches

-- so for each step that changes values alone
abbrev pub WorldsEnd : Type 0
WorldsEnd = (plan : Plan) (s u : State) → DifferInValues s (roll u) → PathsDiffer (row (dressed plan s)) → (ns : List ℕ)
    → AreChanged plan s (roll u) ns → (tree : Stamped) → tree.root ≡ u.tree → length tree.stamps ≡ parts tree.root
    → (table : Table) → AllOwn s.tree table.watches → AllMarksPast tree.steps table.watches
    → WorldEnds plan s u ns tree table
