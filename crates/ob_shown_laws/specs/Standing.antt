-- Where the nodes of a site stand, and what they come to there. Source: oBIX 1.1, chapter 7 (Contracts).
use Rattle.std.specs.Prelude.{◌≡◌, ℕ, List, [], ◌∷◌, Option, Some, None, option_map, option_and_then, slice_get}
use Rattle.ob_object.specs.Object.{Objects, none, node, Object, children}
use Rattle.ob_object.specs.Paths.{is_path, node_path}
use Rattle.ob_contracts.specs.Inherit.{or_else, only_if}
use Rattle.ob_tree.specs.Contexts.{Context, HandedDown, at_root, handed_down, under, comes_to}
use Rattle.ob_site_rules.specs.Build.{Path}
use Rattle.ob_site_rules.specs.Shown.{node_of, dressed, shown}
use Rattle.ob_site_rules.specs.State.{State}
use Rattle.ob_site_rules.specs.declared.plan.Plan.{Plan}

-- an object, and where it stands
pub record Standing : Type 0 where
  pub context : Context
  pub object : Object

-- what it comes to there
abbrev pub effective : Standing → Object
effective x = comes_to x.context x.object

-- an own child of an object, where it stands
abbrev pub inside : Standing → Object → Standing
inside x k = record { context = under (handed_down x.context x.object.head) k.head.name; object = k }

-- one step down, to the own child at a place, and a walk of such steps
abbrev pub step_down : Standing → ℕ → Option Standing
step_down x place = option_map (inside x) (slice_get (children x.object) place)

-- down from where an object stands, by the places of children
abbrev pub walk : Standing → List ℕ → Option Standing
walk x [] = Some x
walk x (place ∷ places) = option_and_then (λ y. walk y places) (step_down x place)

-- The node at a path among the objects of a row, itself or in one of them at any depth, and where it stands.
abbrev pub standing_in : Path → HandedDown → Objects → Option Standing
standing_in p r none = None
standing_in p r (node h below rest) =
    let x : Standing = record { context = under r h.name; object = record { head = h; inner = below } } in
    or_else
    (only_if (is_path p (node_path h)) (Some x))
    (or_else (standing_in p (handed_down (under r h.name) h) below) (standing_in p r rest))

-- the root with the children that roles derive, and the status of each source
abbrev pub root_standing : Plan → State → Standing
root_standing plan s = record { context = at_root s.library; object = dressed plan s }

-- the node at a path, own or derived, where it stands
abbrev pub standing_at : Plan → State → Path → Option Standing
standing_at plan s p =
    let root : Standing = root_standing plan s in
    or_else (only_if (is_path p (node_path root.object.head)) (Some root))
    (standing_in p (handed_down root.context root.object.head) root.object.inner)

-- The node at a path is an own or a derived one, a walk from the root leads to it, and what is shown there is what it comes
-- to where it stands. Where there is no such node nothing is shown: inherited copies have no hrefs.
pub record IsShownThere (plan : Plan) (s : State) (p : Path) : Type 0 where
  pub found : option_map (λ x. x.object) (standing_at plan s p) ≡ node_of p (dressed plan s)
  pub shows : shown plan s p ≡ option_map effective (standing_at plan s p)
  pub walked : (x : Standing) → standing_at plan s p ≡ Some x → (places : List ℕ) × (walk (root_standing plan s) places ≡ Some x)

-- law: of every state and path
abbrev pub ShownWhereItStands : Type 0
ShownWhereItStands = (plan : Plan) (s : State) (p : Path) → IsShownThere plan s p
