-- The contracts of a site in place: the node of each, and which others each names.
use Rattle.std.specs.Prelude.{◌≡◌, ℕ, Bool, true, false, List, [], ◌∷◌, ◌++◌, map, length, Some, slice_get}
use Rattle.std.specs.List.{list_any}
use Rattle.ob_object.specs.declared.head.Slot.{Slot}
use Rattle.ob_object.specs.Object.{Object}
use Rattle.ob_contracts.specs.Inherit.{Contracts}
use Rattle.ob_contracts.specs.Standard.{standard, with_added}
use Rattle.ob_contracts.specs.Ties.{AreMarked, AreTied, is_marked}
use Rattle.ob_contracts.specs.Renewing.{MayRenew}
use Rattle.ob_tree.specs.declared.node.NodeId.{NodeId}
use Rattle.ob_tree.specs.Laid.{changed}
use Rattle.ob_tree.specs.Shown.{part_at}
use Rattle.ob_ground.specs.Grounds.{Grounded, Taught, WordsStand}
use Rattle.ob_site_rules.specs.State.{State}
use Rattle.ob_site_rules.specs.Writes.{site_contracts}
use Rattle.ob_shown_laws.specs.Contracted.{is_inside}
use Rattle.ob_step_laws.specs.Given.{IsMade}
use Rattle.ob_site_state.specs.declared.change.Change.{Change}
use Rattle.ob_site_state.specs.declared.change.Change.TheVariants as change
use Rattle.ob_site_state.specs.declared.own_contracts.OwnContracts.{OwnContracts}
use Rattle.ob_site_state.specs.Changes.{is_library}

-- own objects of these numbers, one for each contract
abbrev pub StandAt : Object → List NodeId → Contracts → Type 0
StandAt root nodes own = map (λ n. part_at n.number root) nodes ≡ map (λ c. Some c.1) own

-- The library is the built-in one with the contracts of the site; and of each of these the node is there, and a row of those that it
-- names.
pub record IsBound (c : OwnContracts) (s : State) : Type 0 where
  pub made : IsMade s
  pub stand : StandAt s.tree c.nodes.items (site_contracts s.tree)
  pub tied : AreTied s.library c.ties (site_contracts s.tree)

-- each contract in which a node is, is written
abbrev pub AreWritten : ℕ → Object → List NodeId → List Bool → Type 0
AreWritten n root nodes written = (j : ℕ) (k : NodeId) → slice_get nodes j ≡ Some k → is_marked j written ≡ false → is_inside n k.number root ≡ false

-- What makes a library that of other own objects: those that are marked have to be made anew.
pub record CanRemake (lib : Contracts) (root : Object) (nodes : List NodeId) (marks : List Bool) : Type 0 where
  pub written : List Bool
  pub rows : List (List ℕ)
  pub may : MayRenew standard lib (site_contracts root) (length standard) written
  pub marked : AreMarked (length standard) written rows marks
  pub tied : AreTied lib rows (site_contracts root)
  pub stand : StandAt root nodes (site_contracts root)

-- a state in which the slot of an own node is another, and its library what its contracts make of the built-in one
abbrev pub with_slot_at : ℕ → Slot → State → State
with_slot_at n slot s = let root : Object = changed (λ h. record h { slot = slot }) n s.tree in record s { library = with_added standard (site_contracts root); tree = root }

-- The library is noted in a step: it was before, or else its value is noted last.
pub data HasNoted (g : Grounded) (old new : List Change) : Type 0 where
  before : list_any is_library old ≡ true → new ≡ old → HasNoted g old new
  last : (told : Taught) → told.library ≡ g.library → WordsStand g.tree.root told → new ≡ old ++ change.Contracts told ∷ [] → HasNoted g old new
