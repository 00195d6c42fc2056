-- What is found of a plan by a path.
use Rattle.std.specs.Prelude.{◌≡◌, ℕ, ◌+◌, Bool, cond, List, [], ◌∷◌, map, drop, Vec, String, Option, Some, None, option_map}
use Rattle.std.specs.Str.{bytes_eq}
use Rattle.std.specs.BTreeMap.{BTreeMap, get_by_text}
use Rattle.ob_alarms.specs.Lists.{first_place}
use Rattle.ob_site_rules.specs.Build.{Path}
use Rattle.ob_object.specs.Paths.{is_path}
use Rattle.ob_site_rules.specs.declared.plan.Plan.{Plan}
use Rattle.ob_site_rules.specs.declared.plan.PointRule.{PointRule}
use Rattle.ob_site_rules.specs.Shown.{rule_of}
use Rattle.ob_site_state.specs.declared.roles.RoleIndex.{RoleIndex}

-- the place of the first element, from a place on, that passes a test
abbrev pub place_from : {A : Type 0} → (A → Bool) → ℕ → List A → Option ℕ
place_from f i xs = option_map (λ n. n + i) (first_place f (drop i xs))

-- the places of all elements that pass a test, in order
abbrev pub all_places : {A : Type 0} → (A → Bool) → List A → List ℕ
all_places f [] = []
all_places f (x ∷ xs) = let later : List ℕ = map (λ n. n + 1) (all_places f xs) in cond (f x) (0 ∷ later) later

abbrev pub has_source : Path → PointRule → Bool
has_source p r = bytes_eq r.source p

abbrev pub is_at : Path → Path → Bool
is_at p q = bytes_eq q p

abbrev pub stands_at : Path → Path × Option Path → Bool
stands_at p h = bytes_eq h.0 p

-- whether a history has this source
abbrev pub is_of : Path → Path × Option Path → Bool
is_of p h = is_path p h.1

-- the places of the histories that record a node
abbrev pub recorders_of : Plan → Path → List ℕ
recorders_of plan p = all_places (is_of p) plan.histories

-- the places that are kept for a path
abbrev pub kept_places : {Y : Type 0} → Option (Vec ℕ Y) → List ℕ
kept_places None = []
kept_places (Some places) = places.items

abbrev pub places_at : {X Y : Type 0} → BTreeMap (String X) (Vec ℕ Y) → Path → List ℕ
places_at m p = kept_places (get_by_text m p)

-- The roles are those of a plan: a path leads to the rule with that source, to the point there, to the history there, and
-- to the histories that record the node there.
pub record AreRoles (r : RoleIndex) (plan : Plan) : Type 0 where
  pub rules : (p : Path) → get_by_text r.rules p ≡ rule_of plan p
  pub points : (p : Path) → get_by_text r.points p ≡ first_place (is_at p) plan.points
  pub histories : (p : Path) → get_by_text r.histories p ≡ first_place (stands_at p) plan.histories
  pub recorders : (p : Path) → places_at r.recorders p ≡ recorders_of plan p
