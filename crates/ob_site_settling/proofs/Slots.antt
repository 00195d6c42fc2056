-- A step changes values alone, but for another library.
use Rattle.std.proofs.Common.{ℕ, ◌≡◌, zero, suc, ◌-◌, ◌<◌, ◌≤◌, Bool, true, false, cond, List, [], ◌∷◌, ◌⊎◌, inl, inr, length, Option, Some, None, option_map, refl, sym, ap, ◌∙◌, true≢false, arith}
use Rattle.std.specs.Prelude.{nat_lt, slice_get}
use Rattle.std.proofs.lemmas.Bool.{ltb-true, ltb-false}
use Rattle.std.proofs.lemmas.Slice.Eq.{bytes_eq-Decides}
use Rattle.ob_object.specs.declared.head.Head.{Head}
use Rattle.ob_object.specs.declared.head.Slot.{Slot}
use Rattle.ob_object.specs.Object.{Objects, none, node, Object, count}
use Rattle.ob_object.specs.Paths.{is_path, node_path}
use Rattle.ob_tree.specs.Laid.{heads, heads_of, head_at, changed_in, changed, paths}
use Rattle.ob_tree.specs.Paths.{place_of}
use Rattle.ob_tree.proofs.Changing.{got_left, got_right, length-heads}
use Rattle.ob_site_rules.specs.Build.{Path}
use Rattle.ob_site_rules.specs.State.{Log, State, rolled_logs}
use Rattle.ob_site_rules.specs.declared.plan.Plan.{Plan}
use Rattle.ob_shown_laws.specs.Alike.{row, DifferInSlots, paths_of}
use Rattle.ob_site_state.specs.declared.change.Change.{Change}
use Rattle.ob_site_state.specs.declared.change.Change.TheVariants as change
use Rattle.ob_site_state.specs.Changes.{rewound, IsNode, ChangesTell}
use Rattle.ob_site_state.proofs.Rewinding.{set_to}
use Rattle.ob_site_settling.specs.Telling.{NotesAreValues}
use Rattle.ob_site_settling.proofs.Notes.{got_map, keys_before}

-- the path that is found at a number is the one looked for
placed_first : (p : Path) (q : Option Path) (o : Option ℕ) (n : ℕ) (b : Bool) → is_path p q ≡ b → cond b (Some 0) (option_map suc o) ≡ Some n
    → ((n ≡ 0) × (q ≡ Some p)) ⊎ ((m : ℕ) × (n ≡ suc m) × (o ≡ Some m))
placed_first p None o n true is e = absurd (true≢false (sym is))
placed_first p (Some q) o n true is e =
    let zero_is : 0 ≡ n = cc in
    inl (sym zero_is, ap (λ (x : Path). Some x) ((bytes_eq-Decides q p).0 is))
placed_first p q None n false is e = absurd cc
placed_first p q (Some m) n false is e =
    let next : suc m ≡ n = cc in
    inr (m, sym next, refl)

pub placed : (p : Path) (qs : List (Option Path)) (n : ℕ) → place_of p qs ≡ Some n → slice_get qs n ≡ Some (Some p)
placed p [] n e = absurd cc
placed p (q ∷ qs) n e = go n (placed_first p q (place_of p qs) n (is_path p q) refl e) (λ m f. placed p qs m f)
  where
    go : (n : ℕ) → ((n ≡ 0) × (q ≡ Some p)) ⊎ ((m : ℕ) × (n ≡ suc m) × (place_of p qs ≡ Some m))
        → ((m : ℕ) → place_of p qs ≡ Some m → slice_get qs m ≡ Some (Some p)) → slice_get (q ∷ qs) n ≡ Some (Some p)
    go n (inl (first, same)) behind = ap (slice_get (q ∷ qs)) first ∙ ap (λ (x : Option Path). Some x) same
    go n (inr (m, next, later)) behind = ap (slice_get (q ∷ qs)) next ∙ behind m later

-- an object with a path
abbrev HasPath : Head → Type 0
HasPath h = node_path h ≡ None → ⊥

node_has : (n : ℕ) (o : Object) → IsNode n o → (h : Head) → head_at n o ≡ Some h → HasPath h
node_has n o is h here bare =
    let path : Some (node_path h) ≡ Some (Some is.0) = sym (got_map node_path (heads_of o) n h here) ∙ placed is.0 (paths o) n is.1 in
    let same : node_path h ≡ Some is.0 = cc in
    no_path (sym bare ∙ same)
  where
    no_path : {p : Path} → None ≡ Some p → ⊥
    no_path e = absurd cc

-- rows of the same objects
pub slots_itself : (os : Objects) → DifferInSlots os os
slots_itself none = tt
slots_itself (node h below rest) = (refl, (λ _. refl), slots_itself below, slots_itself rest)

slots_then : (os qs rs : Objects) → DifferInSlots os qs → DifferInSlots qs rs → DifferInSlots os rs
slots_then none none none d e = tt
slots_then none none (node l deep more) d e = absurd e
slots_then none (node k inner more) rs d e = absurd d
slots_then (node h below rest) none rs d e = absurd d
slots_then (node h below rest) (node k inner more) none d e = absurd e
slots_then (node h below rest) (node k inner more) (node l deep behind) d e = (
  d.0 ∙ e.0,
  (λ no. d.1 no ∙ e.1 (sym (ap (λ (u : Head). node_path u) (d.1 no)) ∙ no)),
  slots_then below inner deep d.2 e.2,
  slots_then rest more behind d.3 e.3,
)

-- the slot of a node is set
slots_back : (slot : Slot) (n : ℕ) (os : Objects) → ((h : Head) → slice_get (heads os) n ≡ Some h → HasPath h) → DifferInSlots (changed_in (set_to slot) n os) os
slots_back slot n none has = tt
slots_back slot zero (node h inner rest) has = (refl, (λ no. absurd (has h refl no)), slots_itself inner, slots_itself rest)
slots_back slot (suc n) (node h inner rest) has =
    go (nat_lt n (count inner)) refl (λ f. slots_back slot n inner f) (λ f. slots_back slot (n - count inner) rest f)
  where
    go : (b : Bool) → nat_lt n (count inner) ≡ b
        → (((g : Head) → slice_get (heads inner) n ≡ Some g → HasPath g) → DifferInSlots (changed_in (set_to slot) n inner) inner)
        → (((g : Head) → slice_get (heads rest) (n - count inner) ≡ Some g → HasPath g) → DifferInSlots (changed_in (set_to slot) (n - count inner) rest) rest)
        → DifferInSlots (cond b (node h (changed_in (set_to slot) n inner) rest) (node h inner (changed_in (set_to slot) (n - count inner) rest))) (node h inner rest)
    go true is deep later =
        let in_inner : n < length (heads inner) = omega (arith, ltb-true n (count inner) is, length-heads inner) in
        (refl, (λ _. refl), deep (λ g e. has g (got_left (heads inner) (heads rest) n in_inner ∙ e)), slots_itself rest)
    go false is deep later =
        let past : length (heads inner) ≤ n = omega (arith, ltb-false n (count inner) is, length-heads inner) in
        (refl, (λ _. refl), slots_itself inner, later (λ g e. has g (got_right (heads inner) (heads rest) n past ∙ ap (λ (k : ℕ). slice_get (heads rest) (n - k)) (length-heads inner) ∙ e)))

slots_back_at : (slot : Slot) (n : ℕ) (o : Object) → IsNode n o → DifferInSlots (row (changed (set_to slot) n o)) (row o)
slots_back_at slot zero o is = (refl, (λ no. absurd (node_has zero o is o.head refl no)), slots_itself o.inner, tt)
slots_back_at slot (suc n) o is = (refl, (λ _. refl), slots_back slot n o.inner (λ h e. node_has (suc n) o is h e), tt)

tree_before : (plan : Plan) (cs : List Change) (s : State) → ChangesTell plan cs s → DifferInSlots (row (rewound cs s).tree) (row s.tree)
tree_before plan [] s told = slots_itself (row s.tree)
tree_before plan (change.Slot id slot ∷ cs) s told =
    slots_then (row (changed (set_to slot) id.number (rewound cs s).tree)) (row (rewound cs s).tree) (row s.tree)
    (slots_back_at slot id.number (rewound cs s).tree told.0)
    (tree_before plan cs s told.1)
tree_before plan (change.Records place len ∷ cs) s told = tree_before plan cs s told.1
tree_before plan (change.Event rule status ∷ cs) s told = tree_before plan cs s told.1
tree_before plan (change.Contracts library ∷ cs) s told = tree_before plan cs s told.1

paths-rolled : (ls : List (Path × Log)) → paths_of (rolled_logs ls) ≡ paths_of ls
paths-rolled [] = refl
paths-rolled (l ∷ ls) = ap (λ (ps : List Path). l.0 ∷ ps) (paths-rolled ls)

pub notes_are_values : NotesAreValues
notes_are_values plan found s can told = record {
  library = refl;
  tree = tree_before plan found s told;
  histories = keys_before found s ∙ sym (paths-rolled s.logs);
}
