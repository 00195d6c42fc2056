-- What the notes of a step leave alone.
use Rattle.std.proofs.Common.{ℕ, ◌≡◌, zero, suc, ◌+◌, ◌-◌, ◌<◌, ◌≤◌, Bool, true, false, ◌||◌, cond, List, [], ◌∷◌, ◌++◌, map, length, Option, Some, None, option_map, refl, sym, ap, ◌∙◌, true≢false, arith}
use Rattle.std.specs.Prelude.{nat_lt, find, slice_get, option_and_then, option_to_list}
use Rattle.std.specs.Str.{bytes_eq}
use Rattle.std.proofs.lemmas.Bool.{ltb-true, ltb-false}
use Rattle.std.proofs.lemmas.Slice.Eq.{bytes_eq-Decides}
use Rattle.ob_object.specs.declared.head.Head.{Head}
use Rattle.ob_object.specs.declared.head.Slot.{Slot}
use Rattle.ob_object.specs.Object.{Objects, none, node, Object, count}
use Rattle.ob_object.specs.Paths.{is_path, node_path}
use Rattle.ob_alarms.specs.Lists.{first_place}
use Rattle.ob_site_rules.specs.Build.{Path}
use Rattle.ob_site_rules.specs.Shown.{rule_of}
use Rattle.ob_site_rules.specs.State.{Log, State, at, is_among, roll, rolled, rolled_logs}
use Rattle.ob_site_rules.specs.declared.plan.Plan.{Plan}
use Rattle.ob_site_rules.specs.declared.plan.PointRule.{PointRule}
use Rattle.ob_shown_laws.specs.Alike.{row}
use Rattle.ob_shown_laws.specs.Looked.{NodesAreSame, IsLeft}
use Rattle.ob_shown_laws.proofs.Leaving.{steps_leave}
use Rattle.ob_tree.specs.Laid.{heads, heads_of, head_at, changed_in, changed, paths}
use Rattle.ob_tree.proofs.Changing.{got_left, got_right, length-heads}
use Rattle.ob_site_state.specs.declared.change.Change.{Change}
use Rattle.ob_site_state.specs.declared.change.Change.TheVariants as change
use Rattle.ob_site_state.specs.Changes.{cut, with_log, undone, rewound, CanUndo, CanRewind, IsTold, ChangesTell}
use Rattle.ob_site_state.specs.Kept.{keys}
use Rattle.ob_site_state.proofs.Rewinding.{set_to}
use Rattle.ob_site_state.proofs.LogPlaces.{keys-with_log}
use Rattle.ob_site_state.proofs.Noting.{paths_stay}
use Rattle.ob_site_settling.specs.Noted.{paths_of, looked_at, NotesTell}

-- a path that is among neither of two lists
pub among_parts : (p : Path) (xs ys : List Path) → is_among p (xs ++ ys) ≡ false → (is_among p xs ≡ false) × (is_among p ys ≡ false)
among_parts p [] ys e = (refl, e)
among_parts p (x ∷ xs) ys e = go (bytes_eq x p) e (λ f. among_parts p xs ys f)
  where
    go : (b : Bool) → (b || is_among p (xs ++ ys)) ≡ false
        → (is_among p (xs ++ ys) ≡ false → (is_among p xs ≡ false) × (is_among p ys ≡ false)) → ((b || is_among p xs) ≡ false) × (is_among p ys ≡ false)
    go true f later = absurd (true≢false f)
    go false f later = later f

-- nor is it one that may be there
off_path : (p : Path) (o : Option Path) → is_among p (option_to_list o) ≡ false → is_path p o ≡ false
off_path p None e = refl
off_path p (Some q) e = go (bytes_eq q p) e
  where
    go : (b : Bool) → (b || false) ≡ false → b ≡ false
    go true f = absurd (true≢false f)
    go false f = refl

-- own nodes of other paths stay where the slot of an object is set
itself : (p : Path) (os : Objects) → NodesAreSame p os os
itself p none = tt
itself p (node h below rest) = ((λ _. refl), itself p below, itself p rest)

abbrev IsOff : Path → Head → Type 0
IsOff p h = is_path p (node_path h) ≡ false

nodes_back : (p : Path) (slot : Slot) (n : ℕ) (os : Objects) → ((h : Head) → slice_get (heads os) n ≡ Some h → IsOff p h) → NodesAreSame p (changed_in (set_to slot) n os) os
nodes_back p slot n none off = tt
nodes_back p slot zero (node h inner rest) off = ((λ e. absurd (true≢false (sym e ∙ off h refl))), itself p inner, itself p rest)
nodes_back p slot (suc n) (node h inner rest) off =
    go (nat_lt n (count inner)) refl (λ f. nodes_back p slot n inner f) (λ f. nodes_back p slot (n - count inner) rest f)
  where
    go : (b : Bool) → nat_lt n (count inner) ≡ b
        → (((g : Head) → slice_get (heads inner) n ≡ Some g → IsOff p g) → NodesAreSame p (changed_in (set_to slot) n inner) inner)
        → (((g : Head) → slice_get (heads rest) (n - count inner) ≡ Some g → IsOff p g) → NodesAreSame p (changed_in (set_to slot) (n - count inner) rest) rest)
        → NodesAreSame p (cond b (node h (changed_in (set_to slot) n inner) rest) (node h inner (changed_in (set_to slot) (n - count inner) rest))) (node h inner rest)
    go true is deep later =
        let in_inner : n < length (heads inner) = omega (arith, ltb-true n (count inner) is, length-heads inner) in
        ((λ _. refl), deep (λ g e. off g (got_left (heads inner) (heads rest) n in_inner ∙ e)), itself p rest)
    go false is deep later =
        let past : length (heads inner) ≤ n = omega (arith, ltb-false n (count inner) is, length-heads inner) in
        ((λ _. refl), itself p inner, later (λ g e. off g (got_right (heads inner) (heads rest) n past ∙ ap (λ (k : ℕ). slice_get (heads rest) (n - k)) (length-heads inner) ∙ e)))

own_back : (p : Path) (slot : Slot) (n : ℕ) (o : Object) → ((h : Head) → head_at n o ≡ Some h → IsOff p h) → NodesAreSame p (row (changed (set_to slot) n o)) (row o)
own_back p slot zero o off = ((λ e. absurd (true≢false (sym e ∙ off o.head refl))), itself p o.inner, tt)
own_back p slot (suc n) o off = ((λ _. refl), nodes_back p slot n o.inner off, tt)

pub got_map : {A B : Type 0} (f : A → B) (xs : List A) (n : ℕ) (x : A) → slice_get xs n ≡ Some x → slice_get (map f xs) n ≡ Some (f x)
got_map f [] n x e = absurd cc
got_map f (y ∷ xs) zero x e = let same : y ≡ x = cc in ap (λ a. Some (f a)) same
got_map f (y ∷ xs) (suc n) x e = got_map f xs n x e

head_off : (p : Path) (n : ℕ) (o : Object) → is_among p (option_to_list (option_and_then (λ q. q) (slice_get (paths o) n))) ≡ false → (h : Head) → head_at n o ≡ Some h → IsOff p h
head_off p n o e h here =
    off_path p (node_path h)
    (ap (λ (q : Option (Option Path)). is_among p (option_to_list (option_and_then (λ x. x) q))) (sym (got_map node_path (heads_of o) n h here)) ∙ e)

-- the logs of other paths
at_other : (p : Path) (f : Log → Log) (place : ℕ) (ls : List (Path × Log)) → is_among p (option_to_list (slice_get (keys ls) place)) ≡ false → at p (with_log f place ls) ≡ at p ls
at_other p f place [] e = refl
at_other p f zero (l ∷ ls) e = go (bytes_eq l.0 p) e
  where
    go : (b : Bool) → (b || false) ≡ false
        → option_map (λ x. x.1) (cond b (Some (l.0, f l.1)) (find (λ x. bytes_eq x.0 p) ls)) ≡ option_map (λ x. x.1) (cond b (Some l) (find (λ x. bytes_eq x.0 p) ls))
    go true h = absurd (true≢false h)
    go false h = refl
at_other p f (suc place) (l ∷ ls) e = go (bytes_eq l.0 p) (at_other p f place ls e)
  where
    go : (b : Bool) → at p (with_log f place ls) ≡ at p ls
        → option_map (λ x. x.1) (cond b (Some l) (find (λ x. bytes_eq x.0 p) (with_log f place ls))) ≡ option_map (λ x. x.1) (cond b (Some l) (find (λ x. bytes_eq x.0 p) ls))
    go true h = refl
    go false h = h

pub at-rolled : (p : Path) (ls : List (Path × Log)) → at p (rolled_logs ls) ≡ option_map rolled (at p ls)
at-rolled p [] = refl
at-rolled p (l ∷ ls) = go (bytes_eq l.0 p) (at-rolled p ls)
  where
    go : (b : Bool) → at p (rolled_logs ls) ≡ option_map rolled (at p ls)
        → option_map (λ x. x.1) (cond b (Some (l.0, rolled l.1)) (find (λ x. bytes_eq x.0 p) (rolled_logs ls))) ≡ option_map rolled (option_map (λ x. x.1) (cond b (Some l) (find (λ x. bytes_eq x.0 p) ls)))
    go true e = refl
    go false e = e

-- the rule that stands first with a source
pub rule_there : (p : Path) (rs : List PointRule) (rule : ℕ) → first_place (λ r. bytes_eq r.source p) rs ≡ Some rule → (r : PointRule) × (slice_get rs rule ≡ Some r) × (r.source ≡ p)
rule_there p [] rule e = absurd cc
rule_there p (r ∷ rs) rule e = go (bytes_eq r.source p) refl (first_place (λ r. bytes_eq r.source p) rs) refl e (λ k f. rule_there p rs k f)
  where
    go : (b : Bool) → bytes_eq r.source p ≡ b → (o : Option ℕ) → first_place (λ r. bytes_eq r.source p) rs ≡ o → cond b (Some 0) (option_map (λ n. n + 1) o) ≡ Some rule
        → ((k : ℕ) → first_place (λ r. bytes_eq r.source p) rs ≡ Some k → (x : PointRule) × (slice_get rs k ≡ Some x) × (x.source ≡ p))
        → (x : PointRule) × (slice_get (r ∷ rs) rule ≡ Some x) × (x.source ≡ p)
    go true is o f e behind =
        let same : 0 ≡ rule = cc in
        (r, ap (slice_get (r ∷ rs)) (sym same), (bytes_eq-Decides r.source p).0 is)
    go false is None f e behind = absurd cc
    go false is (Some k) f e behind =
        let one : k + 1 ≡ rule = cc in
        let same : suc k ≡ rule = omega (arith, one) in
        let later = behind k f in
        (later.0, ap (slice_get (r ∷ rs)) (sym same) ∙ later.1, later.2)

-- one change
one_left : (plan : Plan) (c : Change) (s : State) (p : Path) → IsTold plan c (undone c s) s → is_among p (paths_of plan s c) ≡ false → IsLeft plan (undone c s) s p
one_left plan (change.Slot id slot) s p told e =
    record { own = own_back p slot id.number s.tree (head_off p id.number s.tree e); status = λ rule f. refl; log = refl; count = λ f. refl }
one_left plan (change.Records place len) s p told e =
    record { own = itself p (row s.tree); status = λ rule f. refl; log = at_other p (cut len) place s.logs e; count = λ f. refl }
one_left plan (change.Event rule status) s p told e =
    let parts = among_parts p (option_to_list plan.subject) (option_to_list (option_map (λ (r : PointRule). r.source) (slice_get plan.rules rule))) e in
    record {
      own = itself p (row s.tree);
      status = λ j f. told.1 j (other j f parts.1);
      log = refl;
      count = λ f. absurd (true≢false (sym f ∙ off_path p plan.subject parts.0));
    }
  where
    other : (j : ℕ) → rule_of plan p ≡ Some j → is_among p (option_to_list (option_map (λ r. r.source) (slice_get plan.rules rule))) ≡ false → j ≡ rule → ⊥
    other j f off same =
        let there = rule_there p plan.rules j f in
        true≢false
        (sym (ap (λ (b : Bool). b || false) ((bytes_eq-Decides there.0.source p).1 there.2))
        ∙ sym
        (ap (λ (o : Option PointRule). is_among p (option_to_list (option_map (λ r. r.source) o))) (ap (slice_get plan.rules) (sym same) ∙ there.1))
        ∙ off)
one_left plan (change.Contracts library) s p told e =
    record { own = itself p (row s.tree); status = λ rule f. refl; log = refl; count = λ f. refl }

-- neither paths nor histories are others before a change
paths_undone : (c : Change) (s : State) → CanUndo c s → paths (undone c s).tree ≡ paths s.tree
paths_undone (change.Slot id slot) s can = paths_stay s.tree id.number slot can.0
paths_undone (change.Records place len) s can = refl
paths_undone (change.Event rule status) s can = refl
paths_undone (change.Contracts library) s can = refl

keys_undone : (c : Change) (s : State) → keys (undone c s).logs ≡ keys s.logs
keys_undone (change.Slot id slot) s = refl
keys_undone (change.Records place len) s = keys-with_log (cut len) place s.logs
keys_undone (change.Event rule status) s = refl
keys_undone (change.Contracts library) s = refl

pub paths_before : (cs : List Change) (s : State) → CanRewind cs s → paths (rewound cs s).tree ≡ paths s.tree
paths_before [] s can = refl
paths_before (c ∷ cs) s can = paths_undone c (rewound cs s) can.0 ∙ paths_before cs s can.1

pub keys_before : (cs : List Change) (s : State) → keys (rewound cs s).logs ≡ keys s.logs
keys_before [] s = refl
keys_before (c ∷ cs) s = keys_undone c (rewound cs s) ∙ keys_before cs s

same_paths : (plan : Plan) (c : Change) (s t : State) → paths s.tree ≡ paths t.tree → keys s.logs ≡ keys t.logs → paths_of plan s c ≡ paths_of plan t c
same_paths plan (change.Slot id slot) s t own logs = ap (λ (ps : List (Option Path)). option_to_list (option_and_then (λ p. p) (slice_get ps id.number))) own
same_paths plan (change.Records place len) s t own logs = ap (λ (ps : List Path). option_to_list (slice_get ps place)) logs
same_paths plan (change.Event rule status) s t own logs = refl
same_paths plan (change.Contracts library) s t own logs = refl

all_left : (plan : Plan) (cs : List Change) (s : State) → CanRewind cs s → ChangesTell plan cs s → (p : Path) → is_among p (looked_at plan s cs) ≡ false → IsLeft plan (rewound cs s) s p
all_left plan [] s can told p e = (steps_leave plan).nothing s p
all_left plan (c ∷ cs) s can told p e =
    let u : State = rewound cs s in
    let parts = among_parts p (paths_of plan s c) (looked_at plan s cs) e in
    (steps_leave plan).both (undone c u) u s p
    (one_left plan c u p told.0 (ap (is_among p) (same_paths plan c u s (paths_before cs s can.1) (keys_before cs s)) ∙ parts.0))
    (all_left plan cs s can.1 told.1 p parts.1)

-- a log that hasn't changed has rolled, where it had before
still_rolled : (p : Path) (before now : List (Path × Log)) → rolled_logs before ≡ before → at p before ≡ at p now → (l : Log) → at p now ≡ Some l → rolled l ≡ l
still_rolled p before now all same l e = some_log (sym (ap (option_map rolled) here) ∙ sym (at-rolled p before) ∙ ap (at p) all ∙ here)
  where
    here : at p before ≡ Some l
    here = same ∙ e

    some_log : {a b : Log} → Some a ≡ Some b → a ≡ b
    some_log f = cc

pub notes_tell : NotesTell
notes_tell plan found s can told all p e =
    let left : IsLeft plan (rewound found s) s p = all_left plan found s can told p e in
    (steps_leave plan).both (rewound found s) s (roll s) p left
    ((steps_leave plan).rolls s p (still_rolled p (rewound found s).logs s.logs (ap (λ (x : State). x.logs) all) left.log))
