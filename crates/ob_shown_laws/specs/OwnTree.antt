-- What a tree of a site's own objects is to the site: neither the children that roles derive nor the statuses of sources are in
-- it.
use Rattle.std.specs.Prelude.{◌≡◌, ℕ, ◌+◌, not, ◌&&◌, nat_le, nat_lt, Option, Some, option_map, option_and_then, slice_get}
use Rattle.ob_object.specs.declared.head.Head.{Head}
use Rattle.ob_object.specs.Object.{Object, parts}
use Rattle.ob_object.specs.Paths.{node_path}
use Rattle.ob_site_rules.specs.Build.{Path}
use Rattle.ob_site_rules.specs.Shown.{derived_at, with_status, dressed, shown}
use Rattle.ob_site_rules.specs.State.{State}
use Rattle.ob_site_rules.specs.declared.plan.Plan.{Plan}
use Rattle.ob_tree.specs.Contexts.{Context, handed_down, under, comes_to}
use Rattle.ob_shown_laws.specs.Alike.{row, DifferInValues}
use Rattle.ob_shown_laws.specs.Changed.{same_values, head_in, same_derived, is_round, differs, PathsDiffer}
use Rattle.ob_shown_laws.specs.Own.{derived_own}
use Rattle.ob_shown_laws.specs.OwnShown.{IsNotDerived}
use Rattle.ob_tree.specs.Laid.{paths, head_at}
use Rattle.ob_tree.specs.Paths.{place_of}
use Rattle.ob_tree.specs.Shown.{part_at, standing_at}

-- what is shown of the own object of a number: with statuses and derived children it comes to this where it stands
abbrev pub own_shown_at : Plan → State → ℕ → Option Object
own_shown_at plan s n =
    option_and_then
    (λ c. option_map (λ o. comes_to c (derived_own plan s o)) (part_at n s.tree))
    (standing_at s.library n s.tree)

-- What is shown at a path that no role derives is what is shown of the own object that is the node of that path, by its number;
-- where there is none, nothing is shown. What is shown of a derived node is told by the own one whose role derives it. And the
-- nodes in an own object are those whose numbers are from its own on, as many as it has parts.
pub record OwnTreeTells (plan : Plan) (s : State) : Type 0 where
  pub shows : (p : Path) → IsNotDerived plan s p (row s.tree)
      → shown plan s p ≡ option_and_then (own_shown_at plan s) (place_of p (paths s.tree))
  pub shows_own : (p : Path) (n : ℕ) → PathsDiffer (row (dressed plan s)) → place_of p (paths s.tree) ≡ Some n
      → shown plan s p ≡ own_shown_at plan s n
  pub derives : (p q : Path) (n place : ℕ) (h : Head) (d : Object) → PathsDiffer (row (dressed plan s))
      → place_of q (paths s.tree) ≡ Some n → head_at n s.tree ≡ Some h
      → slice_get (derived_at plan s q) place ≡ Some d → node_path d.head ≡ Some p
      → shown plan s p ≡ option_map (λ c. comes_to (under (handed_down c h) d.head.name) d) (standing_at s.library n s.tree)
  pub round : (p : Path) (n k : ℕ) (x : Object) → PathsDiffer (row (dressed plan s))
      → place_of p (paths s.tree) ≡ Some n → part_at k s.tree ≡ Some x
      → is_round p (derived_own plan s x) ≡ (nat_le k n && nat_lt n (k + parts x))
  -- no role derives the path of an own node, where no two nodes have one path
  pub own : (p : Path) (n : ℕ) → PathsDiffer (row (dressed plan s)) → place_of p (paths s.tree) ≡ Some n
      → IsNotDerived plan s p (row s.tree)

-- law: of every state
abbrev pub OwnTreesTell : Type 0
OwnTreesTell = (plan : Plan) (s : State) → OwnTreeTells plan s

-- Two states that differ in values alone have their own nodes at the same numbers and in the same places; and such a node shows
-- itself otherwise exactly where its slot or its status is shown otherwise, or what its roles derive.
pub record OwnTreeTellsChanges (plan : Plan) (s t : State) : Type 0 where
  pub places : (p : Path) → place_of p (paths t.tree) ≡ place_of p (paths s.tree)
  pub stands : (n : ℕ) → standing_at t.library n t.tree ≡ standing_at s.library n s.tree
  pub differs_by : (p : Path) (n : ℕ) (h k : Head) (c : Context) → IsNotDerived plan s p (row s.tree)
      → place_of p (paths s.tree) ≡ Some n → head_at n s.tree ≡ Some h → head_at n t.tree ≡ Some k
      → standing_at s.library n s.tree ≡ Some c
      → differs plan s t p
      ≡ not (same_values (head_in c (with_status plan s h)) (head_in c (with_status plan t k)) && same_derived plan s t p)

-- law: of every two states that differ in values alone
abbrev pub OwnTreesTellChanges : Type 0
OwnTreesTellChanges = (plan : Plan) (s t : State) → DifferInValues s t → OwnTreeTellsChanges plan s t
