-- Changes and what takes them back.
use Rattle.std.proofs.Common.{◌≡◌, ℕ, zero, suc, ◌-◌, ◌<◌, Bool, true, false, cond, List, [], ◌∷◌, ◌++◌, length, Some, refl, sym, ap, ◌∙◌, subst, arith}
use Rattle.std.specs.Prelude.{slice_get, nat_lt}
use Rattle.ob_object.specs.declared.head.Head.{Head}
use Rattle.ob_object.specs.declared.head.Slot.{Slot}
use Rattle.ob_object.specs.Object.{Objects, none, node, Object, count}
use Rattle.ob_tree.specs.Laid.{changed_in, changed, head_at, heads}
use Rattle.ob_tree.proofs.Changing.{count-changed_in, got_left, got_right, length-heads}
use Rattle.std.proofs.lemmas.Bool.{ltb-true, ltb-false}
use Rattle.ob_site_rules.specs.declared.plan.Plan.{Plan}
use Rattle.ob_site_rules.specs.State.{State}
use Rattle.ob_site_state.specs.declared.change.Change.{Change}
use Rattle.ob_site_state.specs.Changes.{undone, rewound, CanUndo, CanRewind, IsTold, ChangesTell}

abbrev pub set_to : Slot → Head → Head
set_to slot h = record h { slot = slot }

-- one more change is taken back first
pub rewound-append : (cs : List Change) (c : Change) (s : State) → rewound (cs ++ c ∷ []) s ≡ rewound cs (undone c s)
rewound-append [] c s = refl
rewound-append (d ∷ cs) c s = ap (undone d) (rewound-append cs c s)

pub CanRewind-append : (cs : List Change) (c : Change) (s : State) → CanUndo c s → CanRewind cs (undone c s) → CanRewind (cs ++ c ∷ []) s
CanRewind-append [] c s can rest = (can, rest)
CanRewind-append (d ∷ cs) c s can rest =
    (subst (λ (t : State). CanUndo d t) (sym (rewound-append cs c s)) rest.0, CanRewind-append cs c s can rest.1)

-- and what is left of those that can be taken back
pub CanRewind-last : (cs : List Change) (c : Change) (s : State) → CanRewind (cs ++ c ∷ []) s → CanUndo c s × CanRewind cs (undone c s)
CanRewind-last [] c s can = (can.0, can.1)
CanRewind-last (d ∷ cs) c s can =
    let rest = CanRewind-last cs c s can.1 in
    (rest.0, (subst (λ (t : State). CanUndo d t) (rewound-append cs c s) can.0, rest.1))

-- what each tells, with one more
pub ChangesTell-append : (plan : Plan) (cs : List Change) (c : Change) (s : State) → IsTold plan c (undone c s) s → ChangesTell plan cs (undone c s) → ChangesTell plan (cs ++ c ∷ []) s
ChangesTell-append plan [] c s told rest = (told, rest)
ChangesTell-append plan (d ∷ cs) c s told rest =
    (subst (λ (t : State). IsTold plan d (undone d t) t) (sym (rewound-append cs c s)) rest.0, ChangesTell-append plan cs c s told rest.1)

-- a slot that is set and set back
back_head : (h : Head) (old new : Slot) → h.slot ≡ old → set_to old (set_to new h) ≡ h
back_head h old new e = ap (λ (x : Slot). set_to x h) (sym e)

back_by : (n : ℕ) (h g : Head) (old new : Slot) (inner rest : Objects) (b : Bool) → nat_lt n (count inner) ≡ b → slice_get (heads inner ++ heads rest) n ≡ Some g
    → ((m : ℕ) → slice_get (heads inner) m ≡ Some g → changed_in (set_to old) m (changed_in (set_to new) m inner) ≡ inner)
    → ((m : ℕ) → slice_get (heads rest) m ≡ Some g → changed_in (set_to old) m (changed_in (set_to new) m rest) ≡ rest)
    → changed_in (set_to old) (suc n) (cond b (node h (changed_in (set_to new) n inner) rest) (node h inner (changed_in (set_to new) (n - count inner) rest))) ≡ node h inner rest
back_by n h g old new inner rest true is e left right =
    let in_inner : n < length (heads inner) = omega (arith, ltb-true n (count inner) is, length-heads inner) in
    let set : Objects = changed_in (set_to new) n inner in
    ap (λ (b : Bool). cond b (node h (changed_in (set_to old) n set) rest) (node h set (changed_in (set_to old) (n - count set) rest)))
    (ap (λ (k : ℕ). nat_lt n k) (count-changed_in (set_to new) inner n) ∙ is)
    ∙ ap (λ (r : Objects). node h r rest) (left n (sym (got_left (heads inner) (heads rest) n in_inner) ∙ e))
back_by n h g old new inner rest false is e left right =
    let past = ltb-false n (count inner) is in
    let same : n - length (heads inner) ≡ n - count inner = ap (λ (k : ℕ). n - k) (length-heads inner) in
    let set : Objects = changed_in (set_to new) (n - count inner) rest in
    ap (λ (b : Bool). cond b (node h (changed_in (set_to old) n inner) set) (node h inner (changed_in (set_to old) (n - count inner) set))) is
    ∙ ap (λ (r : Objects). node h inner r)
    (right (n - count inner) (ap (slice_get (heads rest)) (sym same) ∙ sym (got_right (heads inner) (heads rest) n (omega (arith, past, length-heads inner))) ∙ e))

pub set_back_in : (r : Objects) (n : ℕ) (g : Head) (old new : Slot) → slice_get (heads r) n ≡ Some g → g.slot ≡ old → changed_in (set_to old) n (changed_in (set_to new) n r) ≡ r
set_back_in none n g old new e is = refl
set_back_in (node h inner rest) zero g old new e is =
    let same : h ≡ g = cc in
    ap (λ (x : Head). node x inner rest) (back_head h old new (ap (λ (x : Head). x.slot) same ∙ is))
set_back_in (node h inner rest) (suc n) g old new e is =
    back_by n h g old new inner rest (nat_lt n (count inner)) refl e (λ m f. set_back_in inner m g old new f is) (λ m f. set_back_in rest m g old new f is)

pub set_back : (o : Object) (n : ℕ) (g : Head) (old new : Slot) → head_at n o ≡ Some g → g.slot ≡ old → changed (set_to old) n (changed (set_to new) n o) ≡ o
set_back o zero g old new e is =
    let same : o.head ≡ g = cc in
    ap (λ (x : Head). let y : Object = record { head = x; inner = o.inner } in y) (back_head o.head old new (ap (λ (x : Head). x.slot) same ∙ is))
set_back o (suc n) g old new e is =
    ap (λ (r : Objects). let y : Object = record { head = o.head; inner = r } in y) (set_back_in o.inner n g old new e is)
