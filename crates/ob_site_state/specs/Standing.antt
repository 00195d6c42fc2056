-- What the roles of a plan stand on: own nodes of the tree. Source: oBIX 1.1, chapters 14 (History) and 15 (Alarming); that roles
-- name nodes by their paths is this profile's own.
use Rattle.std.specs.Prelude.{◌≡◌, true, map, is_some, Some}
use Rattle.ob_object.specs.Object.{Object}
use Rattle.ob_object.specs.Kinds.{has_values}
use Rattle.ob_tree.specs.Paths.{place_of}
use Rattle.ob_tree.specs.Laid.{paths}
use Rattle.ob_site_rules.specs.Build.{Path}
use Rattle.ob_site_rules.specs.declared.plan.Plan.{Plan}
use Rattle.ob_site_rules.specs.State.{State, source_of, is_among}
use Rattle.ob_site_rules.specs.Shown.{node_of}

-- The own node at the path of a history's source is of a kind that has values.
abbrev pub SourcesHaveValues : Plan → State → Type 0
SourcesHaveValues plan s =
    (history p : Path) (o : Object) → source_of plan history ≡ Some p → node_of p s.tree ≡ Some o → has_values o.head.kind ≡ true

-- What roles name are own nodes of the tree: each history, the source of each rule, and the alarm subject; and sources of
-- histories have values.
pub record RolesStand (plan : Plan) (s : State) : Type 0 where
  pub histories : (p : Path) → is_among p (map (λ h. h.0) plan.histories) ≡ true → is_some (place_of p (paths s.tree)) ≡ true
  pub rules : (p : Path) → is_among p (map (λ r. r.source) plan.rules) ≡ true → is_some (place_of p (paths s.tree)) ≡ true
  pub subject : (p : Path) → plan.subject ≡ Some p → is_some (place_of p (paths s.tree)) ≡ true
  pub values : SourcesHaveValues plan s
