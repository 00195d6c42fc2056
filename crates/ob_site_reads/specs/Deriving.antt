-- Which nodes the roles of an own node derive.
use Rattle.std.specs.Prelude.{◌≡◌, ℕ, true, false, List, Option, Some, None, is_some, slice_get}
use Rattle.ob_object.specs.Object.{Object, in_row}
use Rattle.ob_object.specs.Paths.{node_path}
use Rattle.ob_site_rules.specs.Build.{Path}
use Rattle.ob_site_rules.specs.declared.plan.Plan.{Plan}
use Rattle.ob_site_rules.specs.State.{State}
use Rattle.ob_site_rules.specs.Paths.{below}
use Rattle.ob_site_rules.specs.Shown.{derived_at, shown}
use Rattle.ob_shown_laws.specs.Changed.{is_in}
use Rattle.ob_tree.specs.Laid.{paths}
use Rattle.ob_tree.specs.Paths.{place_of}
use Rattle.ob_site_reads.specs.Parents.{has_slash}

-- where an own node is at the second path, its roles derive no node of the first
abbrev pub IsOff : Plan → State → Path → Path → Type 0
IsOff plan s p q = is_some (place_of q (paths s.tree)) ≡ true → is_in p (in_row (derived_at plan s q)) ≡ false

-- that holds for every parent path q of p: q, a slash and a name without a slash are p
abbrev pub IsOffBelow : Plan → State → Path → Type 0
IsOffBelow plan s p = (q name : Path) → has_slash name ≡ false → below q name ≡ p → IsOff plan s p q

-- what is shown at a path, where it is found, and else what holds
abbrev pub ShownOr : Plan → State → Path → Type 0 → Option Object → Type 0
ShownOr plan s p off None = off
ShownOr plan s p off (Some o) = shown plan s p ≡ Some o

-- the object of this path among objects side by side, if it is the path of a node among them
abbrev pub IsAmong : Path → List Object → Option Object → Type 0
IsAmong p os None = is_in p (in_row os) ≡ false
IsAmong p os (Some o) = (place : ℕ) × (slice_get os place ≡ Some o) × (node_path o.head ≡ Some p)
