-- What a request to the site itself leaves of own slots and of the library: no slot that was given is taken away. Source: oBIX 1.1,
-- chapters 7 (Contracts) and 10 (Networking: Write).
use Rattle.std.specs.Prelude.{◌≡◌, ℕ, true, List, Option, Some, IsTrue, is_some}
use Rattle.url.specs.Parts.{Parts}
use Rattle.ob_object.specs.Object.{Object}
use Rattle.ob_object.specs.Kinds.{has_values}
use Rattle.ob_contracts.specs.Standard.{standard, with_added}
use Rattle.ob_site_rules.specs.declared.request.Request.{Request}
use Rattle.ob_site_rules.specs.Build.{Text, Path}
use Rattle.ob_site_rules.specs.declared.plan.Plan.{Plan}
use Rattle.ob_site_rules.specs.State.{State, is_among}
use Rattle.ob_site_rules.specs.Shown.{node_of, dressed}
use Rattle.ob_site_rules.specs.Writes.{site_contracts}
use Rattle.ob_site_rules.specs.Actions.{act_itself}
use Rattle.ob_shown_laws.specs.Alike.{row}
use Rattle.ob_shown_laws.specs.Changed.{PathsDiffer}
use Rattle.ob_step_laws.specs.Defaults.{DifferInDefaults, StayGiven}

-- the library is the built-in one with the contracts of the site
abbrev pub IsMade : State → Type 0
IsMade s = s.library ≡ with_added standard (site_contracts s.tree)

-- each writable point is a node, of a kind that has values
abbrev pub PointsHaveValues : Plan → State → Type 0
PointsHaveValues plan s = (p : Path) → is_among p plan.points ≡ true
    → IsTrue (is_some (node_of p s.tree)) × ((o : Object) → node_of p s.tree ≡ Some o → has_values o.head.kind ≡ true)

-- A step took no slot away, and left a library that has other slots alone.
pub record TakesNoneAway (plan : Plan) (s u : State) : Type 0 where
  pub given : StayGiven (row s.tree) (row u.tree)
  pub library : DifferInDefaults s.library u.library
  pub made : IsMade u
  pub points : PointsHaveValues plan u

-- So does each request to the site itself, a batch among them.
abbrev pub StepsTakeNoneAway : Type 0
StepsTakeNoneAway = (locate : Parts → Text → Option Path) (plan : Plan) (s : State) (numbers : List ℕ) (r : Request) (now : ℕ)
    → IsMade s → PointsHaveValues plan s → PathsDiffer (row (dressed plan s))
    → TakesNoneAway plan s (act_itself locate plan s numbers r now).0
