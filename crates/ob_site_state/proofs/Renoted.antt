-- A step that notes the library, sets a slot, and then has another library.
use Rattle.std.proofs.Common.{◌≡◌, ℕ, ◌<◌, Bool, true, false, ◌||◌, List, [], ◌∷◌, ◌++◌, Some, option_map, IsTrue, refl, sym, ap, ◌∙◌, subst}
use Rattle.std.specs.Prelude.{Result, Ok, Err, OnErr}
use Rattle.std.specs.List.{list_any}
use Rattle.ob_object.specs.declared.head.Head.{Head}
use Rattle.ob_object.specs.declared.head.Slot.{Slot}
use Rattle.ob_object.specs.Fits.{fits_slot}
use Rattle.ob_object.specs.Object.{Object, parts}
use Rattle.ob_contracts.specs.Inherit.{Contracts}
use Rattle.ob_alarms.specs.Changes.{State as Board}
use Rattle.ob_tree.specs.declared.node.NodeId.{NodeId}
use Rattle.ob_tree.specs.Laid.{head_at, changed}
use Rattle.ob_ground.specs.Grounds.{Grounded, Taught, WordsStand}
use Rattle.ob_site_rules.specs.declared.plan.Plan.{Plan}
use Rattle.ob_site_rules.specs.State.{State}
use Rattle.ob_site_state.specs.declared.change.Change.{Change}
use Rattle.ob_site_state.specs.declared.change.Change.TheVariants as change
use Rattle.ob_site_state.specs.Changes.{is_library, rewound, IsNode}
use Rattle.ob_site_state.specs.Kept.{IsConsistentState}
use Rattle.ob_site_state.specs.OwnContracts.{HasNoted, before, last}
use Rattle.ob_site_state.proofs.Again.{library_again, rewound_again}
use Rattle.ob_site_state.proofs.Noting.{before_as, library_back, library_noted, slot_back, slot_noted}
use Rattle.ob_site_state.proofs.Rewinding.{set_to}

-- what holds anyway, holds of an error
pub whatever_err : {A E : Type 0} (r : Result A E) (P : Type 0) → P → OnErr r P
whatever_err (Ok x) P p = tt
whatever_err (Err e) P p = p

any_more : (xs ys : List Change) → list_any is_library xs ≡ true → list_any is_library (xs ++ ys) ≡ true
any_more [] ys e = absurd cc
any_more (x ∷ xs) ys e = go (is_library x) e (any_more xs ys)
  where
    go : (b : Bool) → (b || list_any is_library xs) ≡ true → (list_any is_library xs ≡ true → list_any is_library (xs ++ ys) ≡ true) → (b || list_any is_library (xs ++ ys)) ≡ true
    go true e more = refl
    go false e more = more e

any_last : (xs : List Change) (told : Taught) → list_any is_library (xs ++ change.Contracts told ∷ []) ≡ true
any_last [] told = refl
any_last (x ∷ xs) told = go (is_library x) (any_last xs told)
  where
    go : (b : Bool) → list_any is_library (xs ++ change.Contracts told ∷ []) ≡ true → (b || list_any is_library (xs ++ change.Contracts told ∷ [])) ≡ true
    go true e = refl
    go false e = e

module _ (plan : Plan) (time : ℕ) (s : State) (b : Board) (since : ℕ) (f f1 : List Change) (g : Grounded) (kept : IsConsistentState plan time s b since f) (library : g.library ≡ s.library) (tree : g.tree.root ≡ s.tree) where
  pub note_kept : HasNoted g f f1 → IsConsistentState plan time s b since f1
  note_kept (before has same) = subst (IsConsistentState plan time s b since) (sym same) kept
  note_kept (last told is stand all) =
      library_noted plan time s s b since f f1 told s.library kept (is ∙ library) (subst (λ (o : Object). WordsStand o told) tree stand) refl all

  pub note_back : HasNoted g f f1 → rewound f1 s ≡ rewound f s
  note_back (before has same) = ap (λ (l : List Change). rewound l s) same
  note_back (last told is stand all) = before_as s s f f1 (change.Contracts told) (library_back s s told s.library (is ∙ library) refl) all

  note_there : HasNoted g f f1 → list_any is_library f1 ≡ true
  note_there (before has same) = ap (list_any is_library) same ∙ has
  note_there (last told is stand all) = ap (list_any is_library) all ∙ any_last f told

  module _ (t u : State) (c : Board) (f2 : List Change) (node : NodeId) (old new : Slot) (l : Contracts) (note : HasNoted g f f1) (root : c.root ≡ b.root) (rules : c.rules ≡ b.rules) (is_node : IsNode node.number s.tree)
      (within : node.number < parts s.tree) (fits : (h : Head) → head_at node.number s.tree ≡ Some h → IsTrue (fits_slot h.kind new)) (was : Some old ≡ option_map (λ (h : Head). h.slot) (head_at node.number s.tree))
      (set : t ≡ record s { tree = changed (set_to new) node.number s.tree }) (all : f2 ≡ f1 ++ change.Slot node old ∷ []) (made : u ≡ record t { library = l }) where
    -- with the slot set
    pub set_kept : IsConsistentState plan time t c since f2
    set_kept = slot_noted plan time s t b c since f1 f2 node old new (note_kept note) root rules is_node within fits was set all

    set_back : rewound f2 t ≡ rewound f s
    set_back = before_as s t f1 f2 (change.Slot node old) (slot_back s t node old new within was set) all ∙ note_back note

    set_there : list_any is_library f2 ≡ true
    set_there = ap (list_any is_library) all ∙ any_more f1 (change.Slot node old ∷ []) (note_there note)

    -- and another library
    pub renewed_kept : IsConsistentState plan time u c since f2
    renewed_kept = library_again plan time t u c since f2 l set_kept set_there made

    pub renewed_back : rewound f2 u ≡ rewound f s
    renewed_back = ap (rewound f2) made ∙ rewound_again f2 l t set_there ∙ set_back
