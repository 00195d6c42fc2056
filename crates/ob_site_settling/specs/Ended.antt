-- The end of a step that left another library.
use Rattle.std.specs.Prelude.{◌≡◌, ℕ, List, ◌++◌, length}
use Rattle.ob_object.specs.Object.{parts}
use Rattle.ob_site_rules.specs.declared.plan.Plan.{Plan}
use Rattle.ob_site_rules.specs.State.{State, roll}
use Rattle.ob_site_rules.specs.Shown.{dressed}
use Rattle.ob_shown_laws.specs.Alike.{row, DifferInValues}
use Rattle.ob_shown_laws.specs.Changed.{PathsDiffer}
use Rattle.ob_step_laws.specs.Defaults.{DifferInDefaults, StayGiven, with_library}
use Rattle.ob_tree.specs.Trees.{Stamped}
use Rattle.ob_watch.specs.Tables.{Table}
use Rattle.ob_site_state.specs.Kept.{Kept}
use Rattle.ob_site_state.specs.Stamping.{tree_of}
use Rattle.ob_site_settling.specs.Ending.{AreChanged}
use Rattle.ob_site_settling.specs.Worlds.{AllOwn, AllMarksPast, WorldEnds}
use Rattle.ob_site_settling.specs.Otherwise.{AreOtherwise}

-- what a step from the one state to the other owes the watches: with the library put aside it changed values alone; the library has
-- other slots alone; and no slot that was given was taken away
pub record DiffersInDefaults (s u : State) : Type 0 where
  pub values : DifferInValues s (with_library s.library (roll u))
  pub given : StayGiven (row s.tree) (row u.tree)
  pub library : DifferInDefaults s.library u.library

-- The end of such a step: the nodes that it changed otherwise than by the library, and those of which a watch shows something else
-- with it, are all that have to be touched.
abbrev pub DefaultsEnd : Type 0
DefaultsEnd = (plan : Plan) (s u : State) → DiffersInDefaults s u → PathsDiffer (row (dressed plan s)) → (ns ms : List ℕ)
    → AreChanged plan s (with_library s.library (roll u)) ns → AreOtherwise plan (with_library s.library u) u.library ms
    → (tree : Stamped) → tree.root ≡ u.tree → length tree.stamps ≡ parts tree.root
    → (table : Table) → AllOwn s.tree table.watches → AllMarksPast tree.steps table.watches
    → WorldEnds plan s u (ns ++ ms) tree table

-- So the end of the step that a state is in, where these nodes are touched.
abbrev pub EndsAll : Kept → List ℕ → Type 0
EndsAll k ns = (table : Table) → AllOwn k.before.tree table.watches → AllMarksPast k.steps table.watches
    → WorldEnds k.plan k.before k.now ns (tree_of k) table
