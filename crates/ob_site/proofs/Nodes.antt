-- The notes of a step tell that it moved no own node.
use Rattle.std.proofs.Common.{◌≡◌, ℕ, ◌<◌, Bool, true, false, List, [], ◌∷◌, Option, Some, refl, sym, ap, ◌∙◌, subst, nat_eq}
use Rattle.ob_object.specs.declared.head.Head.{Head}
use Rattle.ob_object.specs.declared.head.Slot.{Slot}
use Rattle.ob_object.specs.Object.{Object, parts}
use Rattle.ob_shown_laws.specs.Changed.{is_watchable}
use Rattle.ob_tree.specs.Depths.{levels}
use Rattle.ob_tree.specs.Laid.{head_at, changed, paths}
use Rattle.ob_tree.specs.Paths.{place_of}
use Rattle.ob_tree.specs.Paths as tree
use Rattle.ob_tree.specs.Shown.{row}
use Rattle.ob_tree.proofs.Changing.{parts-changed}
use Rattle.ob_tree.proofs.Leaves.{others_stay}
use Rattle.ob_site_rules.specs.Build.{Path}
use Rattle.ob_site_rules.specs.State.{State}
use Rattle.ob_site_settling.specs.Ending.{IsOwnBy}
use Rattle.ob_site_state.specs.declared.change.Change.{Change}
use Rattle.ob_site_state.specs.declared.change.Change.TheVariants as change
use Rattle.ob_site_state.specs.Changes.{undone, rewound, CanUndo, CanRewind}
use Rattle.ob_site_state.proofs.Noting.{head_there, head_set, paths_stay}
use Rattle.ob_site_state.proofs.Rewinding.{set_to}
use Rattle.ob_site_state.proofs.Settling.{equal_of, differ_of}
use Rattle.ob_watch.specs.declared.item.Tracked.{Tracked}
use Rattle.ob_watch.specs.declared.item.Tracked.TheVariants as tracked
use Rattle.ob_site.specs.Ending.{NodesStay}
use Rattle.ob_site.proofs.Levels.{levels_changed}

-- the object of a number can be watched, if there is one
abbrev CanWatch : ℕ → Object → Type 0
CanWatch m o = (h : Head) → head_at m o ≡ Some h → is_watchable h ≡ true

watched_before : (o : Object) (n m : ℕ) (slot : Slot) → n < parts o → CanWatch m (changed (set_to slot) n o) → CanWatch m o
watched_before o n m slot within can h is = go (nat_eq m n) refl
  where
    go : (b : Bool) → nat_eq m n ≡ b → is_watchable h ≡ true
    go true e = can (set_to slot h) (ap (λ (i : ℕ). head_at i (changed (set_to slot) n o)) (equal_of m n e) ∙ head_set o n h slot (ap (λ (i : ℕ). head_at i o) (sym (equal_of m n e)) ∙ is))
    go false e =
        let there = head_there o n within in
        can h (others_stay (set_to slot) n m o (changed (set_to slot) n o) there.0 there.1 refl (differ_of m n e) ∙ is)

own_set : (o : Object) (n : ℕ) (slot : Slot) (p : Path) (k : Tracked) → n < parts o → IsOwnBy (changed (set_to slot) n o) p k → IsOwnBy o p k
own_set o n slot p (tracked.Object node mark) within own =
    (ap (λ (ps : List (Option tree.Path)). place_of p ps) (sym (paths_stay o n slot within)) ∙ own.0, watched_before o n node.number slot within own.1)
own_set o n slot p (tracked.Feed feed filter given) within own = own

own_undone : (c : Change) (s : State) (p : Path) (k : Tracked) → CanUndo c s → IsOwnBy (undone c s).tree p k → IsOwnBy s.tree p k
own_undone (change.Slot node slot) s p k can own = own_set s.tree node.number slot p k can.0 own
own_undone _ s p k can own = own

count_undone : (c : Change) (s : State) → parts (undone c s).tree ≡ parts s.tree
count_undone (change.Slot node slot) s = parts-changed (set_to slot) node.number s.tree
count_undone _ s = refl

own_rewound : (cs : List Change) (s : State) (p : Path) (k : Tracked) → CanRewind cs s → IsOwnBy (rewound cs s).tree p k → IsOwnBy s.tree p k
own_rewound [] s p k can own = own
own_rewound (c ∷ cs) s p k can own = own_rewound cs s p k can.1 (own_undone c (rewound cs s) p k can.0 own)

count_rewound : (cs : List Change) (s : State) → parts (rewound cs s).tree ≡ parts s.tree
count_rewound [] s = refl
count_rewound (c ∷ cs) s = count_undone c (rewound cs s) ∙ count_rewound cs s

levels_undone : (c : Change) (s : State) → levels (row (undone c s).tree) ≡ levels (row s.tree)
levels_undone (change.Slot node slot) s = levels_changed (set_to slot) node.number s.tree
levels_undone _ s = refl

levels_rewound : (cs : List Change) (s : State) → levels (row (rewound cs s).tree) ≡ levels (row s.tree)
levels_rewound [] s = refl
levels_rewound (c ∷ cs) s = levels_undone c (rewound cs s) ∙ levels_rewound cs s

pub nodes_stay : (cs : List Change) (before now : State) → CanRewind cs now → rewound cs now ≡ before → NodesStay before now
nodes_stay cs before now can is = record {
  count = sym (count_rewound cs now) ∙ ap (λ (s : State). parts s.tree) is;
  nested = sym (levels_rewound cs now) ∙ ap (λ (s : State). levels (row s.tree)) is;
  own = λ path k own. own_rewound cs now path k can (subst (λ (s : State). IsOwnBy s.tree path k) (sym is) own);
}
