-- What a site shows, told by its own objects: with neither the children that roles derive nor the statuses of sources kept in
-- them.
use Rattle.std.specs.Prelude.{◌≡◌, ℕ, true, false, not, ◌&&◌, Option, Some, option_map, slice_get}
use Rattle.ob_object.specs.Object.{Objects, none, node, Object, in_row}
use Rattle.ob_object.specs.Paths.{node_path}
use Rattle.ob_site_rules.specs.Build.{Path}
use Rattle.ob_site_rules.specs.Shown.{derived, derived_at, with_status, dressed, shown}
use Rattle.ob_site_rules.specs.State.{State}
use Rattle.ob_site_rules.specs.declared.plan.Plan.{Plan}
use Rattle.ob_tree.specs.Contexts.{handed_down, under}
use Rattle.ob_shown_laws.specs.Alike.{row, DifferInValues}
use Rattle.ob_shown_laws.specs.Standing.{Standing, effective, standing_in, standing_at}
use Rattle.ob_shown_laws.specs.Numbered.{root_row, numbered}
use Rattle.ob_shown_laws.specs.Changed.{same_values, head_in, same_derived, is_in, is_round, differs, PathsDiffer}
use Rattle.ob_shown_laws.specs.Own.{derived_own}

-- no role of a node in a row derives a node of this path
abbrev pub IsNotDerived : Plan → State → Path → Objects → Type 0
IsNotDerived plan s p none = Unit {0}
IsNotDerived plan s p (node h inner rest) =
    (is_in p (in_row (derived plan s (node_path h))) ≡ false) × IsNotDerived plan s p inner × IsNotDerived plan s p rest

-- the own node at a path, where it stands among the own objects
abbrev pub own_standing : State → Path → Option Standing
own_standing s p = standing_in p (root_row s.library) (row s.tree)

-- an own object where it stands, with statuses and what roles derive
abbrev pub dressed_standing : Plan → State → Standing → Standing
dressed_standing plan s x = record { context = x.context; object = derived_own plan s x.object }

-- a child that roles derive of an own object, where it stands behind the own children
abbrev pub derived_standing : Standing → Object → Standing
derived_standing x d = record { context = under (handed_down x.context x.object.head) d.head.name; object = d }

-- What is shown at a path that no role derives is what the own node there comes to where it stands, with statuses and derived
-- children; where no own node is, nothing is shown. A derived node is found behind the own children of its node. And in an own
-- object are the same nodes of such a path with derived children as without.
pub record OwnTells (plan : Plan) (s : State) : Type 0 where
  pub stands : (p : Path) → IsNotDerived plan s p (row s.tree)
      → standing_at plan s p ≡ option_map (dressed_standing plan s) (own_standing s p)
  pub shows : (p : Path) → IsNotDerived plan s p (row s.tree)
      → shown plan s p ≡ option_map (λ x. effective (dressed_standing plan s x)) (own_standing s p)
  pub derives : (p q : Path) (x : Standing) (place : ℕ) (d : Object) → PathsDiffer (row (dressed plan s))
      → own_standing s q ≡ Some x → slice_get (derived_at plan s q) place ≡ Some d → node_path d.head ≡ Some p
      → standing_at plan s p ≡ Some (derived_standing x d)
  pub round : (p : Path) (k : ℕ) (x : Standing) → IsNotDerived plan s p (row s.tree)
      → numbered k (root_row s.library) (row s.tree) ≡ Some x → is_round p (derived_own plan s x.object) ≡ is_round p x.object
  -- no role derives the path of an own node, where no two nodes have one path
  pub own : (p : Path) → PathsDiffer (row (dressed plan s)) → is_in p (row s.tree) ≡ true → IsNotDerived plan s p (row s.tree)
  pub differ : PathsDiffer (row (dressed plan s)) → PathsDiffer (row s.tree)

-- law: of every state
abbrev pub OwnIsEnough : Type 0
OwnIsEnough = (plan : Plan) (s : State) → OwnTells plan s

-- An own node of two states that differ in values alone stands in one place in both. It shows itself otherwise exactly where
-- its slot or its status is shown otherwise, or what its roles derive.
pub record OwnTellsChanges (plan : Plan) (s t : State) : Type 0 where
  pub derives : (p : Path) → IsNotDerived plan s p (row s.tree) → IsNotDerived plan t p (row t.tree)
  pub stands : (p : Path) (x y : Standing) → own_standing s p ≡ Some x → own_standing t p ≡ Some y → y.context ≡ x.context
  pub differs_by : (p : Path) (x y : Standing) → IsNotDerived plan s p (row s.tree)
      → own_standing s p ≡ Some x → own_standing t p ≡ Some y
      → differs plan s t p
      ≡ not
      (same_values (head_in x.context (with_status plan s x.object.head)) (head_in x.context (with_status plan t y.object.head))
      && same_derived plan s t p)

-- law: of every two states that differ in values alone
abbrev pub OwnTellsDifferences : Type 0
OwnTellsDifferences = (plan : Plan) (s t : State) → DifferInValues s t → OwnTellsChanges plan s t
