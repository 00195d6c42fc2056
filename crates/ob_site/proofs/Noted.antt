-- The notes of a step tell whether it has changed the site.
use Rattle.std.proofs.Common.{◌≡◌, ◌≢◌, ◌⊎◌, ℕ, zero, suc, ◌+◌, ◌-◌, ◌<◌, ◌≤◌, Bool, true, false, cond, not, ◌||◌, List, [], ◌∷◌, length, Option, Some, None, option_map, unwrap_or, refl, sym, ap, ◌∙◌, subst, inl, inr, MatchBool, nat_eq, length-take, arith}
use Rattle.std.specs.Prelude.{slice_get}
use Rattle.std.specs.List.{list_any, find}
use Rattle.std.proofs.lemmas.Bool.{or_parts}
use Rattle.std.proofs.lemmas.Option.{slice_get_past}
use Rattle.ob_object.specs.declared.head.Head.{Head}
use Rattle.ob_object.specs.declared.head.Slot.{Slot}
use Rattle.ob_object.specs.Object.{Object, parts}
use Rattle.ob_alarms.specs.declared.alarm.Alarm.{Alarm}
use Rattle.ob_alarms.specs.declared.alarm.Event.{Event}
use Rattle.ob_contracts.specs.Inherit.{Contracts}
use Rattle.ob_contracts.specs.Standard.{standard, with_added}
use Rattle.ob_step_laws.specs.Given.{IsMade}
use Rattle.ob_site_laws.proofs.Same.{tells_slot}
use Rattle.ob_site_rules.specs.Build.{Path}
use Rattle.ob_site_rules.specs.Sameness.{same_slot}
use Rattle.ob_site_rules.specs.State.{Log, State, roll, rolled_logs}
use Rattle.ob_site_rules.specs.declared.plan.Plan.{Plan}
use Rattle.ob_site_rules.specs.Writes.{events_ever, site_contracts}
use Rattle.ob_site_state.specs.declared.change.Change.{Change}
use Rattle.ob_site_state.specs.declared.change.Change.TheVariants as change
use Rattle.ob_site_state.specs.Changes.{rewound, cut, with_log, events_before, CanRewind, ChangesTell}
use Rattle.ob_site_state.proofs.Noting.{head_there, head_set}
use Rattle.ob_site_state.proofs.Rewinding.{set_to}
use Rattle.ob_site_state.proofs.Settling.{equal_of, differ_of}
use Rattle.ob_tree.specs.Laid.{head_at, heads_of, spots_of, changed, leaf}
use Rattle.ob_tree.proofs.Changing.{length-heads, spots-changed}
use Rattle.ob_tree.proofs.Leaves.{others_stay}
use Rattle.ob_tree.proofs.StandsFor.{stands_for}
use Rattle.ob_values.specs.declared.verb.Verb.{Verb}
use Rattle.ob_values.specs.declared.verb.Verb.TheVariants.{Get}
use Rattle.ob_step_laws.proofs.Unrolled.{as_many}
use Rattle.ob_watch.proofs.Unmaking.{false_true}
use Rattle.ob_site.specs.Keeping.{IsChange}
use Rattle.ob_site.specs.Noted.{is_slot_of, slot_or, slot_before, has_other_slot, is_otherwise}

-- ---- what an object said of itself before the step

set_again : (q : Option Head) (f : Head → Slot) (slot : Slot) (g : Head) → option_map (λ (h : Head). set_to (f h) h) q ≡ Some g → Some (set_to slot g) ≡ option_map (set_to slot) q
set_again None f slot g e = absurd cc
set_again (Some h) f slot g e = ap (option_map (set_to slot)) (sym e)

same_said : (q : Option Head) → q ≡ option_map (λ (h : Head). set_to h.slot h) q
same_said None = refl
same_said (Some h) = refl

pub head_before : (n : ℕ) (cs : List Change) (s : State) → CanRewind cs s → head_at n (rewound cs s).tree ≡ option_map (λ (h : Head). set_to (slot_before n cs h.slot) h) (head_at n s.tree)
head_before n [] s can = same_said (head_at n s.tree)
head_before n (change.Records place len ∷ cs) s can = head_before n cs s can.1
head_before n (change.Event rule status ∷ cs) s can = head_before n cs s can.1
head_before n (change.Contracts told ∷ cs) s can = head_before n cs s can.1
head_before n (change.Slot node slot ∷ cs) s can = go (head_before n cs s can.1) (nat_eq node.number n) refl
  where
    before : Object
    before = (rewound cs s).tree

    with_it : Bool → Head → Slot
    with_it b h = slot_or h.slot (cond b (Some (change.Slot node slot)) (find (is_slot_of n) cs))

    there : (g : Head) × (head_at node.number before ≡ Some g)
    there = head_there before node.number can.0.0

    go : head_at n before ≡ option_map (λ (h : Head). set_to (slot_before n cs h.slot) h) (head_at n s.tree) → (b : Bool) → nat_eq node.number n ≡ b
        → head_at n (changed (set_to slot) node.number before) ≡ option_map (λ (h : Head). set_to (with_it b h) h) (head_at n s.tree)
    go rest true is =
        let same = equal_of node.number n is in
        let here : head_at n before ≡ Some there.0 = ap (λ (i : ℕ). head_at i before) (sym same) ∙ there.1 in
        ap (λ (i : ℕ). head_at i (changed (set_to slot) node.number before)) (sym same)
        ∙ head_set before node.number there.0 slot there.1
        ∙ set_again (head_at n s.tree) (λ (h : Head). slot_before n cs h.slot) slot there.0 (sym rest ∙ here)
    go rest false is =
        others_stay (set_to slot) node.number n before (changed (set_to slot) node.number before) there.0 there.1 refl (λ e. differ_of node.number n is (sym e)) ∙ rest

-- ---- a tree whose objects say the same

got_same : {A : Type 0} (xs ys : List A) → ((n : ℕ) → slice_get xs n ≡ slice_get ys n) → xs ≡ ys
got_same [] [] h = refl
got_same [] (y ∷ ys) h = let e : None ≡ Some y = h 0 in absurd cc
got_same (x ∷ xs) [] h = let e : Some x ≡ None = h 0 in absurd cc
got_same {A} (x ∷ xs) (y ∷ ys) h =
    let e : Some x ≡ Some y = h 0 in
    let same : x ≡ y = cc in
    ap (λ (z : A). z ∷ xs) same ∙ ap (λ (zs : List A). y ∷ zs) (got_same xs ys (λ n. h (suc n)))

spots_before : (cs : List Change) (s : State) → spots_of 0 None (rewound cs s).tree ≡ spots_of 0 None s.tree
spots_before [] s = refl
spots_before (change.Slot node slot ∷ cs) s = spots-changed (set_to slot) node.number (rewound cs s).tree 0 None ∙ spots_before cs s
spots_before (change.Records place len ∷ cs) s = spots_before cs s
spots_before (change.Event rule status ∷ cs) s = spots_before cs s
spots_before (change.Contracts told ∷ cs) s = spots_before cs s

same_tree : (o p : Object) → spots_of 0 None o ≡ spots_of 0 None p → ((n : ℕ) → head_at n o ≡ head_at n p) → o ≡ p
same_tree o p spots heads =
    sym (stands_for o (heads_of o) (spots_of 0 None o) refl refl)
    ∙ stands_for p (heads_of o) (spots_of 0 None o) (got_same (heads_of o) (heads_of p) heads) spots

-- ---- no note tells that anything is otherwise

not_false : (b : Bool) → not b ≡ false → b ≡ true
not_false true e = refl
not_false false e = absurd cc

slot_same : (n : ℕ) (cs : List Change) (root : Object) (h : Head) → head_at n root ≡ Some h → has_other_slot n cs root ≡ false → slot_before n cs h.slot ≡ h.slot
slot_same n cs root h is none =
    tells_slot.equal (slot_before n cs h.slot) h.slot
    (not_false (same_slot (slot_before n cs h.slot) h.slot)
    (sym (ap (λ (q : Option Head). unwrap_or (option_map (λ (x : Head). not (same_slot (slot_before n cs x.slot) x.slot)) q) false) is) ∙ none))

-- an object has no note, or it has the slot that it had
unnoted : (n : ℕ) (cs ds : List Change) (root : Object) (now : Slot) → list_any (is_otherwise cs root) ds ≡ false → (slot_before n ds now ≡ now) ⊎ (has_other_slot n cs root ≡ false)
unnoted n cs [] root now none = inl refl
unnoted n cs (change.Records place len ∷ ds) root now none = absurd cc
unnoted n cs (change.Event rule status ∷ ds) root now none = absurd cc
unnoted n cs (change.Contracts told ∷ ds) root now none = unnoted n cs ds root now none
unnoted n cs (change.Slot node slot ∷ ds) root now none =
    let both = or_parts (has_other_slot node.number cs root) (list_any (is_otherwise cs root) ds) none in
    go both.0 (unnoted n cs ds root now both.1) (nat_eq node.number n) refl
  where
    go : has_other_slot node.number cs root ≡ false → (slot_before n ds now ≡ now) ⊎ (has_other_slot n cs root ≡ false) → (b : Bool) → nat_eq node.number n ≡ b
        → (slot_or now (cond b (Some (change.Slot node slot)) (find (is_slot_of n) ds)) ≡ now) ⊎ (has_other_slot n cs root ≡ false)
    go here rest true is = inr (ap (λ (i : ℕ). has_other_slot i cs root) (sym (equal_of node.number n is)) ∙ here)
    go here rest false is = rest

head_same : (n : ℕ) (cs : List Change) (root : Object) → list_any (is_otherwise cs root) cs ≡ false → (q : Option Head) → head_at n root ≡ q → option_map (λ (h : Head). set_to (slot_before n cs h.slot) h) q ≡ q
head_same n cs root none None is = refl
head_same n cs root none (Some h) is = ap (λ (x : Slot). Some (set_to x h)) (go (unnoted n cs cs root h.slot none))
  where
    go : (slot_before n cs h.slot ≡ h.slot) ⊎ (has_other_slot n cs root ≡ false) → slot_before n cs h.slot ≡ h.slot
    go (inl same) = same
    go (inr other) = slot_same n cs root h is other

-- all but the objects and the library
record StaysBeside (s t : State) : Type 0 where
  logs : s.logs ≡ t.logs
  alarms : s.alarms ≡ t.alarms
  events : s.events ≡ t.events

beside_same : (cs ds : List Change) (root : Object) (s : State) → list_any (is_otherwise cs root) ds ≡ false → StaysBeside (rewound ds s) s
beside_same cs [] root s none = record { logs = refl; alarms = refl; events = refl }
beside_same cs (change.Records place len ∷ ds) root s none = absurd cc
beside_same cs (change.Event rule status ∷ ds) root s none = absurd cc
beside_same cs (change.Contracts told ∷ ds) root s none =
    let rest = beside_same cs ds root s none in
    record { logs = rest.logs; alarms = rest.alarms; events = rest.events }
beside_same cs (change.Slot node slot ∷ ds) root s none =
    let rest = beside_same cs ds root s (or_parts (has_other_slot node.number cs root) (list_any (is_otherwise cs root) ds) none).1 in
    record { logs = rest.logs; alarms = rest.alarms; events = rest.events }

same_state : (s t : State) → s.library ≡ t.library → s.tree ≡ t.tree → StaysBeside s t → s ≡ t
same_state s t library tree rest =
    ap (λ (x : Contracts). let u : State = record { library = x; tree = s.tree; logs = s.logs; alarms = s.alarms; events = s.events } in u) library
    ∙ ap (λ (x : Object). let u : State = record { library = t.library; tree = x; logs = s.logs; alarms = s.alarms; events = s.events } in u) tree
    ∙ ap (λ (x : List (Path × Log)). let u : State = record { library = t.library; tree = t.tree; logs = x; alarms = s.alarms; events = s.events } in u) rest.logs
    ∙ ap (λ (x : List Alarm). let u : State = record { library = t.library; tree = t.tree; logs = t.logs; alarms = x; events = s.events } in u) rest.alarms
    ∙ ap (λ (x : List Event). let u : State = record { library = t.library; tree = t.tree; logs = t.logs; alarms = t.alarms; events = x } in u) rest.events

-- Where no note tells it, the state is the one before: the library is the one that the site's contracts make.
nothing_changed : (cs : List Change) (before now : State) → CanRewind cs now → rewound cs now ≡ before → IsMade before → IsMade now → list_any (is_otherwise cs now.tree) cs ≡ false → now ≡ before
nothing_changed cs before now can is made_before made none =
    let tree : (rewound cs now).tree ≡ now.tree = same_tree (rewound cs now).tree now.tree (spots_before cs now)
    (λ n. head_before n cs now can ∙ head_same n cs now.tree none (head_at n now.tree) refl) in
    let was : IsMade (rewound cs now) = subst IsMade (sym is) made_before in
    sym (same_state (rewound cs now) now
    (was ∙ ap (λ (o : Object). with_added standard (site_contracts o)) tree ∙ sym made)
    tree
    (beside_same cs cs now.tree now none))
    ∙ is

-- ---- a note tells that something is otherwise

-- how many records and alarm events there have been
abbrev logged : List (Path × Log) → ℕ
logged [] = 0
logged (l ∷ ls) = events_ever l.1 + logged ls

abbrev ever : State → ℕ
ever s = logged s.logs + length s.events

logged_rolled : (ls : List (Path × Log)) → logged (rolled_logs ls) ≡ logged ls
logged_rolled [] = refl
logged_rolled (l ∷ ls) = omega (arith, as_many l.1 l.1.capacity refl, logged_rolled ls)

ever_rolled : (s : State) → ever (roll s) ≡ ever s
ever_rolled s = omega (arith, logged_rolled s.logs)

cut_one : (len : ℕ) (l : Log) → length l.kept ≡ len + 1 → events_ever (cut len l) + 1 ≡ events_ever l
cut_one len l e = omega (arith, e, length-take len l.kept)

logged_cut : (place len : ℕ) (ls : List (Path × Log)) → place < length ls → ((l : Path × Log) → slice_get ls place ≡ Some l → length l.1.kept ≡ len + 1)
    → logged (with_log (cut len) place ls) + 1 ≡ logged ls
logged_cut place len [] lt is = absurd (omega arith)
logged_cut zero len (l ∷ ls) lt is = omega (arith, cut_one len l.1 (is l refl))
logged_cut (suc place) len (l ∷ ls) lt is = omega (arith, logged_cut place len ls (omega arith) is)

events_cut : (es : List Event) → 0 < length es → length (events_before es) + 1 ≡ length es
events_cut [] lt = absurd (omega arith)
events_cut (e ∷ []) lt = refl
events_cut (e ∷ f ∷ es) lt = omega (arith, events_cut (f ∷ es) (omega arith))

-- whether a note is of a record or an alarm event
abbrev is_entry : Change → Bool
is_entry (change.Records place len) = true
is_entry (change.Event rule status) = true
is_entry _ = false

-- so there were no more before, and fewer where a note is of one
ever_before : (plan : Plan) (cs : List Change) (s : State) → CanRewind cs s → ChangesTell plan cs s
    → (ever (rewound cs s) ≤ ever s) × (list_any is_entry cs ≡ true → ever (rewound cs s) < ever s)
ever_before plan [] s can told = (omega arith, λ any. absurd (false_true any))
ever_before plan (change.Slot node slot ∷ cs) s can told = ever_before plan cs s can.1 told.1
ever_before plan (change.Contracts words ∷ cs) s can told = ever_before plan cs s can.1 told.1
ever_before plan (change.Records place len ∷ cs) s can told =
    let rest = ever_before plan cs s can.1 told.1 in
    let one = logged_cut place len (rewound cs s).logs can.0 told.0 in
    (omega (arith, rest.0, one), λ any. omega (arith, rest.0, one))
ever_before plan (change.Event rule status ∷ cs) s can told =
    let rest = ever_before plan cs s can.1 told.1 in
    let one = events_cut (rewound cs s).events can.0 in
    (omega (arith, rest.0, one), λ any. omega (arith, rest.0, one))

-- an object has another slot, or a note is of a record or an alarm event
which : (cs ds : List Change) (root : Object) → list_any (is_otherwise cs root) ds ≡ true → ((n : ℕ) × (has_other_slot n cs root ≡ true)) ⊎ (list_any is_entry ds ≡ true)
which cs [] root any = absurd (false_true any)
which cs (change.Records place len ∷ ds) root any = inr refl
which cs (change.Event rule status ∷ ds) root any = inr refl
which cs (change.Contracts told ∷ ds) root any = which cs ds root any
which cs (change.Slot node slot ∷ ds) root any = go (which cs ds root) (has_other_slot node.number cs root) refl any
  where
    Found : Type 0
    Found = ((n : ℕ) × (has_other_slot n cs root ≡ true)) ⊎ (list_any is_entry ds ≡ true)

    go : (list_any (is_otherwise cs root) ds ≡ true → Found) → (b : Bool) → has_other_slot node.number cs root ≡ b → (b || list_any (is_otherwise cs root) ds) ≡ true → Found
    go behind true is rest = inl (node.number, is)
    go behind false is rest = behind rest

other_head : (n : ℕ) (cs : List Change) (q : Option Head) → unwrap_or (option_map (λ (h : Head). not (same_slot (slot_before n cs h.slot) h.slot)) q) false ≡ true
    → option_map (λ (h : Head). set_to (slot_before n cs h.slot) h) q ≡ q → ⊥
other_head n cs None other same = absurd (false_true other)
other_head n cs (Some h) other same =
    let heads : set_to (slot_before n cs h.slot) h ≡ h = cc in
    let slots : slot_before n cs h.slot ≡ h.slot = ap (λ (x : Head). x.slot) heads in
    let yes : same_slot (slot_before n cs h.slot) h.slot ≡ true = ap (λ (x : Slot). same_slot x h.slot) slots ∙ tells_slot.itself h.slot in
    false_true (sym (ap not yes) ∙ other)

something_changed : (plan : Plan) (cs : List Change) (before now : State) → CanRewind cs now → ChangesTell plan cs now → rewound cs now ≡ before → list_any (is_otherwise cs now.tree) cs ≡ true → roll now ≢ before
something_changed plan cs before now can told is any same = go (which cs cs now.tree any)
  where
    go : ((n : ℕ) × (has_other_slot n cs now.tree ≡ true)) ⊎ (list_any is_entry cs ≡ true) → ⊥
    go (inl other) =
        other_head other.0 cs (head_at other.0 now.tree) other.1
        (sym (head_before other.0 cs now can) ∙ ap (λ (s : State). head_at other.0 s.tree) (is ∙ sym same))
    go (inr entry) =
        let fewer = (ever_before plan cs now can told).1 entry in
        absurd (omega (arith, fewer, ever_rolled now, ap ever (is ∙ sym same)))

-- ---- what is looked at

-- there is no object of this number
pub outside : (n : ℕ) (cs : List Change) (root : Object) → parts root ≤ n → has_other_slot n cs root ≡ false
outside n cs root past =
    let none : head_at n root ≡ None = slice_get_past (heads_of root) n (omega (arith, length-heads root.inner, past)) in
    ap (λ (q : Option Head). unwrap_or (option_map (λ (h : Head). not (same_slot (slot_before n cs h.slot) h.slot)) q) false) none

-- this is its own object
own_slot : (n : ℕ) (cs : List Change) (o : Object) (slot : Slot) (q : Option Head) → Some o ≡ option_map leaf q → slot ≡ o.head.slot
    → not (same_slot (slot_before n cs slot) slot) ≡ unwrap_or (option_map (λ (h : Head). not (same_slot (slot_before n cs h.slot) h.slot)) q) false
own_slot n cs o slot None is slot_is = absurd cc
own_slot n cs o slot (Some h) is slot_is =
    let same : o ≡ leaf h = cc in
    ap (λ (x : Slot). not (same_slot (slot_before n cs x) x)) (slot_is ∙ ap (λ (x : Object). x.head.slot) same)

pub inside : (n : ℕ) (cs : List Change) (root o : Object) (slot before : Slot) (b : Bool) → Some o ≡ option_map leaf (head_at n root) → slot ≡ o.head.slot → before ≡ slot_before n cs slot → b ≡ same_slot before slot
    → not b ≡ has_other_slot n cs root
inside n cs root o slot before b is slot_is before_is b_is =
    ap not (b_is ∙ ap (λ (x : Slot). same_slot x slot) before_is) ∙ own_slot n cs o slot (head_at n root) is slot_is

-- a test of the notes decides it
pub changed_so : (plan : Plan) (cs : List Change) (before now : State) (b : Bool) → b ≡ list_any (is_otherwise cs now.tree) cs → CanRewind cs now → ChangesTell plan cs now → rewound cs now ≡ before
    → IsMade before → IsMade now → MatchBool b (roll now ≢ before) (now ≡ before)
changed_so plan cs before now true e can told is made_before made = something_changed plan cs before now can told is (sym e)
changed_so plan cs before now false e can told is made_before made = nothing_changed cs before now can is made_before made (sym e)

pub left_out : (before now : State) (verb : Verb) (b : Bool) → MatchBool b (roll now ≢ before) (now ≡ before) → verb ≢ Get → MatchBool (not b) ((now ≡ before) ⊎ (verb ≡ Get)) (IsChange before now verb)
left_out before now verb true changed other = (other, changed)
left_out before now verb false same other = inl same
