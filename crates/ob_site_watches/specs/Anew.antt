-- All watches when the steps of a tree are counted from 1 again.
use Rattle.std.specs.Prelude.{◌≡◌, ℕ, List}
use Rattle.ob_site_rules.specs.declared.plan.Plan.{Plan}
use Rattle.ob_tree.specs.Trees.{Stamped}
use Rattle.ob_watch.specs.Flags.{anew, flags_of}
use Rattle.ob_watch.specs.Items.{marked_anew}
use Rattle.ob_watch.specs.Marks.{AreStampsPast, IsMarkPast}
use Rattle.ob_watch.specs.Tables.{Leased, with_all_items}
use Rattle.ob_site_watches.specs.Tables.{AllItems}

-- The flags of all stay as they were, and neither a mark nor a stamp is of a step to come.
pub record IsRenumbered (t : Stamped) (ws : List (ℕ × Leased)) : Type 0 where
  pub flags : flags_of (anew t) (with_all_items (marked_anew t) ws) ≡ flags_of t ws
  pub marks : AllItems (IsMarkPast (anew t).steps) (with_all_items (marked_anew t) ws)
  pub stamps : AreStampsPast (anew t)

-- so of the watches of every site
abbrev pub FlagsStayAnew : Type 0
FlagsStayAnew = (plan : Plan) (t : Stamped) (ws : List (ℕ × Leased)) → IsRenumbered t ws
