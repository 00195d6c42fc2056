-- The numbers that the first notes of a step tell are those of the own nodes that show themselves otherwise.
use Rattle.std.proofs.Common.{ℕ, ◌≡◌, Bool, true, false, not, ◌&&◌, ◌||◌, List, [], ◌∷◌, ◌++◌, ◌⊎◌, inl, inr, length, Option, Some, None, refl, sym, ap, ap₂, ◌∙◌, subst, true≢false, append_assoc}
use Rattle.std.specs.Prelude.{nat_eq, is_none, slice_get, option_and_then, option_to_list, unwrap_or}
use Rattle.std.specs.List.{AllByRecursion, list_any}
use Rattle.std.proofs.lemmas.Bool.{eq-eqb, eqb-true}
use Rattle.std.proofs.lemmas.Slice.Eq.{bytes_eq-Decides}
use Rattle.ob_values.proofs.Bools.{both_true}
use Rattle.ob_values.proofs.Lists.{all_both}
use Rattle.ob_object.specs.declared.head.Slot.{Slot}
use Rattle.ob_object.specs.declared.status.Status.{Status}
use Rattle.ob_object.specs.Paths.{is_path}
use Rattle.ob_contracts.specs.Inherit.{Contracts, or_else, only_if}
use Rattle.ob_alarms.specs.States.{status_of}
use Rattle.ob_tree.specs.Laid.{head_at, paths}
use Rattle.ob_tree.specs.Paths.{place_of}
use Rattle.ob_tree.specs.Shown.{standing_at}
use Rattle.ob_step_laws.specs.Laws.{Apart}
use Rattle.ob_site_rules.specs.Build.{Path}
use Rattle.ob_site_rules.specs.State.{Log, State, numbered_from, roll}
use Rattle.ob_site_rules.specs.declared.plan.Plan.{Plan}
use Rattle.ob_site_rules.specs.declared.plan.PointRule.{PointRule}
use Rattle.ob_site_rules.specs.Sameness.{same_status}
use Rattle.ob_site_rules.specs.Shown.{rule_of}
use Rattle.ob_shown_laws.specs.Changed.{differs}
use Rattle.ob_site_state.specs.declared.change.Change.{Change}
use Rattle.ob_site_state.specs.declared.change.Change.TheVariants as change
use Rattle.ob_site_state.specs.Changes.{rewound, IsNode, CanRewind, ChangesTell}
use Rattle.ob_site_state.specs.Kept.{keys, IsSoundFor}
use Rattle.ob_site_settling.specs.Telling.{first_noted, slot_noted, len_noted, status_noted, is_first, other_slot_in, other_slot, other_records, is_rule, node_with, other_status, told_by, all_told, subject_told}
use Rattle.ob_site_laws.proofs.Same.{tells_status}
use Rattle.ob_site_settling.proofs.Notes.{paths_before, rule_there}
use Rattle.ob_site_settling.proofs.Differing.{other_by, other_slot_by, slot_differs, log_differs, count_differs, ended, any_of, own_differs, log_other, log_sound, log_noted}

-- what is noted first in lists behind one another
pub noted_append : {A : Type 0} (part : Change → Option A) (xs ys : List Change) → first_noted part (xs ++ ys) ≡ or_else (first_noted part xs) (first_noted part ys)
noted_append part [] ys = refl
noted_append part (c ∷ xs) ys = ap (or_else (part c)) (noted_append part xs ys) ∙ assoc (part c) (first_noted part xs) (first_noted part ys)
  where
    assoc : {A : Type 0} (a b c : Option A) → or_else a (or_else b c) ≡ or_else (or_else a b) c
    assoc None b c = refl
    assoc (Some x) b c = refl

none_is : {A : Type 0} (o : Option A) → is_none o ≡ true → o ≡ None
none_is None e = refl
none_is (Some x) e = absurd (true≢false (sym e))

-- the first note of a thing tells what was before
first_tells : {A : Type 0} (part : Change → Option A) (earlier rest : List Change) (c : Change) (x : A)
    → first_noted part earlier ≡ None → part c ≡ Some x → first_noted part (earlier ++ c ∷ rest) ≡ Some x
first_tells part earlier rest c x none is =
    noted_append part earlier (c ∷ rest)
    ∙ ap (λ o. or_else o (or_else (part c) (first_noted part rest))) none
    ∙ ap (λ o. or_else o (first_noted part rest)) is

chosen : {A : Type 0} (b : Bool) (o : Option A) (x : A) → only_if b o ≡ Some x → (b ≡ true) × (o ≡ Some x)
chosen true o x e = (refl, e)
chosen false o x e = absurd cc

same_number : (n : ℕ) → nat_eq n n ≡ true
same_number n = eq-eqb n n refl

-- a number is among others
abbrev pub Has : ℕ → List ℕ → Type 0
Has n ns = list_any (λ m. nat_eq m n) ns ≡ true

has_left : (n : ℕ) (xs ys : List ℕ) → Has n xs → Has n (xs ++ ys)
has_left n [] ys h = absurd (true≢false (sym h))
has_left n (x ∷ xs) ys h = go (nat_eq x n) h (λ f. has_left n xs ys f)
  where
    go : (b : Bool) → (b || list_any (λ m. nat_eq m n) xs) ≡ true → (Has n xs → Has n (xs ++ ys)) → (b || list_any (λ m. nat_eq m n) (xs ++ ys)) ≡ true
    go true h behind = refl
    go false h behind = behind h

has_right : (n : ℕ) (xs ys : List ℕ) → Has n ys → Has n (xs ++ ys)
has_right n [] ys h = h
has_right n (x ∷ xs) ys h = go (nat_eq x n) (has_right n xs ys h)
  where
    go : (b : Bool) → Has n (xs ++ ys) → (b || list_any (λ m. nat_eq m n) (xs ++ ys)) ≡ true
    go true behind = refl
    go false behind = behind

has_one : (n : ℕ) (o : Option ℕ) → o ≡ Some n → Has n (option_to_list o)
has_one n o e = subst (λ (x : Option ℕ). Has n (option_to_list x)) (sym e) (ap (λ (b : Bool). b || false) (same_number n))

-- what the first note of a thing tells is among the numbers
covered : {A : Type 0} (library : Contracts) (plan : Plan) (s : State) (part : Change → Option A) (n : ℕ) (x : A)
    → ((earlier : List Change) (c : Change) → first_noted part earlier ≡ None → part c ≡ Some x → only_if (is_first earlier c) (told_by library plan s c) ≡ Some n)
    → (earlier cs : List Change) → first_noted part earlier ≡ None → first_noted part cs ≡ Some x → Has n (all_told library plan s earlier cs)
covered library plan s part n x tells earlier [] none is = absurd cc
covered {A} library plan s part n x tells earlier (c ∷ cs) none is =
    go (part c) refl is (λ f g. covered library plan s part n x tells (earlier ++ c ∷ []) cs f g)
  where
    here : List ℕ
    here = option_to_list (only_if (is_first earlier c) (told_by library plan s c))

    go : (o : Option A) → part c ≡ o → or_else o (first_noted part cs) ≡ Some x
        → (first_noted part (earlier ++ c ∷ []) ≡ None → first_noted part cs ≡ Some x → Has n (all_told library plan s (earlier ++ c ∷ []) cs))
        → Has n (here ++ all_told library plan s (earlier ++ c ∷ []) cs)
    go (Some y) noted e behind =
        has_left n here (all_told library plan s (earlier ++ c ∷ []) cs)
        (has_one n (only_if (is_first earlier c) (told_by library plan s c)) (tells earlier c none (noted ∙ e)))
    go None noted e behind =
        has_right n here (all_told library plan s (earlier ++ c ∷ []) cs)
        (behind
        (noted_append part earlier (c ∷ []) ∙ ap (λ (o : Option A). or_else o (or_else (part c) None)) none ∙ ap (λ (o : Option A). or_else o None) noted)
        e)

-- so of slots, records and statuses
slot_covered : (library : Contracts) (plan : Plan) (s : State) (n : ℕ) (slot : Slot) (cs : List Change) → other_slot_in (standing_at library n s.tree) (head_at n s.tree) slot ≡ true
    → first_noted (slot_noted n) cs ≡ Some slot → Has n (all_told library plan s [] cs)
slot_covered library plan s n slot cs other is = covered library plan s (slot_noted n) n slot tells [] cs refl is
  where
    tells : (earlier : List Change) (c : Change) → first_noted (slot_noted n) earlier ≡ None → slot_noted n c ≡ Some slot → only_if (is_first earlier c) (told_by library plan s c) ≡ Some n
    tells earlier (change.Slot id x) none e =
        let both = chosen (nat_eq id.number n) (Some x) slot e in
        let same : id.number ≡ n = eqb-true id.number n both.0 in
        let value : x ≡ slot = some_slot both.1 in
        ap (λ (m : ℕ). only_if (is_none (first_noted (slot_noted m) earlier)) (other_slot library s m x)) same
        ∙ ap (λ (o : Option Slot). only_if (is_none o) (other_slot library s n x)) none
        ∙ ap (λ (y : Slot). other_slot library s n y) value
        ∙ ap (λ (b : Bool). only_if b (Some n)) other
      where
        some_slot : {a b : Slot} → Some a ≡ Some b → a ≡ b
        some_slot e = cc
    tells earlier (change.Records place len) none e = absurd cc
    tells earlier (change.Event rule status) none e = absurd cc
    tells earlier (change.Contracts replaced) none e = absurd cc

records_covered : (library : Contracts) (plan : Plan) (s : State) (n i len : ℕ) (l : Path × Log) (cs : List Change) → slice_get s.logs i ≡ Some l → place_of l.0 (paths s.tree) ≡ Some n → log_other len l.1 ≡ true
    → first_noted (len_noted i) cs ≡ Some len → Has n (all_told library plan s [] cs)
records_covered library plan s n i len l cs there here other is = covered library plan s (len_noted i) n len tells [] cs refl is
  where
    tells : (earlier : List Change) (c : Change) → first_noted (len_noted i) earlier ≡ None → len_noted i c ≡ Some len → only_if (is_first earlier c) (told_by library plan s c) ≡ Some n
    tells earlier (change.Slot id x) none e = absurd cc
    tells earlier (change.Records place m) none e =
        let both = chosen (nat_eq place i) (Some m) len e in
        let same : place ≡ i = eqb-true place i both.0 in
        let value : m ≡ len = some_number both.1 in
        ap (λ (k : ℕ). only_if (is_none (first_noted (len_noted k) earlier)) (other_records s k m)) same
        ∙ ap (λ (o : Option ℕ). only_if (is_none o) (other_records s i m)) none
        ∙ ap (other_records s i) value
        ∙ ap (option_and_then (λ (x : Path × Log). only_if (log_other len x.1) (place_of x.0 (paths s.tree)))) there
        ∙ ap₂ (λ (b : Bool) (o : Option ℕ). only_if b o) other here
      where
        some_number : {a b : ℕ} → Some a ≡ Some b → a ≡ b
        some_number e = cc
    tells earlier (change.Event rule status) none e = absurd cc
    tells earlier (change.Contracts replaced) none e = absurd cc

status_covered : (library : Contracts) (plan : Plan) (s : State) (n rule : ℕ) (status : Status) (cs : List Change) → node_with plan s rule ≡ Some n
    → not (same_status status (status_of (numbered_from 0 plan.rules) s.alarms rule)) ≡ true
    → first_noted (status_noted rule) cs ≡ Some status → Has n (all_told library plan s [] cs)
status_covered library plan s n rule status cs has other is = covered library plan s (status_noted rule) n status tells [] cs refl is
  where
    tells : (earlier : List Change) (c : Change) → first_noted (status_noted rule) earlier ≡ None → status_noted rule c ≡ Some status → only_if (is_first earlier c) (told_by library plan s c) ≡ Some n
    tells earlier (change.Slot id x) none e = absurd cc
    tells earlier (change.Records place m) none e = absurd cc
    tells earlier (change.Event r st) none e =
        let both = chosen (nat_eq r rule) (Some st) status e in
        let same : r ≡ rule = eqb-true r rule both.0 in
        let value : st ≡ status = some_status both.1 in
        ap (λ (k : ℕ). only_if (is_none (first_noted (status_noted k) earlier)) (other_status plan s k st)) same
        ∙ ap (λ (o : Option Status). only_if (is_none o) (other_status plan s rule st)) none
        ∙ ap (other_status plan s rule) value
        ∙ ap₂ (λ (b : Bool) (o : Option ℕ). only_if b o) other has
      where
        some_status : {a b : Status} → Some a ≡ Some b → a ≡ b
        some_status e = cc
    tells earlier (change.Contracts replaced) none e = absurd cc

-- the node whose rule it is
has_node : (plan : Plan) (s : State) (p : Path) (n rule : ℕ) → rule_of plan p ≡ Some rule → place_of p (paths s.tree) ≡ Some n → node_with plan s rule ≡ Some n
has_node plan s p n rule is here =
    let there = rule_there p plan.rules rule is in
    ap (option_and_then (λ (r : PointRule). only_if (is_rule rule (rule_of plan r.source)) (place_of r.source (paths s.tree)))) there.1
    ∙ ap (λ (q : Path). only_if (is_rule rule (rule_of plan q)) (place_of q (paths s.tree))) there.2
    ∙ ap (λ (o : Option ℕ). only_if (is_rule rule o) (place_of p (paths s.tree))) is
    ∙ ap (λ (b : Bool). only_if b (place_of p (paths s.tree))) (same_number rule)
    ∙ here

is_that_rule : (rule : ℕ) (o : Option ℕ) → is_rule rule o ≡ true → o ≡ Some rule
is_that_rule rule None e = absurd (true≢false (sym e))
is_that_rule rule (Some first) e = ap (λ (n : ℕ). Some n) (eqb-true first rule e)

path_is : (p : Path) (o : Option Path) → is_path p o ≡ true → o ≡ Some p
path_is p None e = absurd (true≢false (sym e))
path_is p (Some q) e = ap (λ (x : Path). Some x) ((bytes_eq-Decides q p).0 e)

-- one of the parts that are otherwise
abbrev OneOf : Bool → Bool → Bool → Bool → Type 0
OneOf a b c d = (a ≡ true) ⊎ ((b ≡ true) ⊎ ((c ≡ true) ⊎ (d ≡ true)))

one_of : (a b c d : Bool) → any_of a b c d ≡ true → OneOf a b c d
one_of true b c d e = inl refl
one_of false true c d e = inr (inl refl)
one_of false false true d e = inr (inr (inl refl))
one_of false false false true e = inr (inr (inr refl))
one_of false false false false e = absurd (true≢false (sym e))

any_one : (a b c d : Bool) → OneOf a b c d → any_of a b c d ≡ true
any_one true b c d e = refl
any_one false true c d e = refl
any_one false false true d e = refl
any_one false false false true e = refl
any_one false false false false (inl e) = absurd (true≢false (sym e))
any_one false false false false (inr (inl e)) = absurd (true≢false (sym e))
any_one false false false false (inr (inr (inl e))) = absurd (true≢false (sym e))
any_one false false false false (inr (inr (inr e))) = absurd (true≢false (sym e))

-- the numbers that a step tells
abbrev pub numbers_told : Plan → List Change → State → List ℕ
numbers_told plan cs now = all_told (rewound cs now).library plan now [] cs ++ option_to_list (subject_told plan now (length (rewound cs now).alarms))

-- each own node that shows itself otherwise is among them
pub complete : (plan : Plan) (cs : List Change) (now : State) → CanRewind cs now → ChangesTell plan cs now → roll (rewound cs now) ≡ rewound cs now → IsSoundFor plan (rewound cs now)
    → (p : Path) (n : ℕ) → place_of p (paths now.tree) ≡ Some n → differs plan (rewound cs now) (ended cs now) p ≡ true → Has n (numbers_told plan cs now)
complete plan cs now can told rolled_before sound p n here otherwise =
    go
    (one_of (slot_differs cs now n) (other_by plan cs now (rule_of plan p)) (log_differs cs now p) (count_differs plan cs now p)
    (sym (own_differs plan cs now can told sound p n here) ∙ otherwise))
  where
    library : Contracts
    library = (rewound cs now).library

    by_notes : List ℕ
    by_notes = all_told library plan now [] cs

    by_subject : Option ℕ
    by_subject = subject_told plan now (length (rewound cs now).alarms)

    of_slot : (o : Option Slot) → first_noted (slot_noted n) cs ≡ o → other_slot_by library now n o ≡ true → Has n by_notes
    of_slot None noted e = absurd (true≢false (sym e))
    of_slot (Some slot) noted e = slot_covered library plan now n slot cs e noted

    of_status : (rule : ℕ) → rule_of plan p ≡ Some rule → (o : Option Status) → first_noted (status_noted rule) cs ≡ o
        → not (same_status (unwrap_or o (status_of (numbered_from 0 plan.rules) now.alarms rule)) (status_of (numbered_from 0 plan.rules) now.alarms rule)) ≡ true → Has n by_notes
    of_status rule is None noted e =
        absurd (true≢false (sym e ∙ ap not (tells_status.itself (status_of (numbered_from 0 plan.rules) now.alarms rule))))
    of_status rule is (Some status) noted e = status_covered library plan now n rule status cs (has_node plan now p n rule is here) e noted

    of_rule : (r : Option ℕ) → rule_of plan p ≡ r → other_by plan cs now r ≡ true → Has n by_notes
    of_rule None is e = absurd (true≢false (sym e))
    of_rule (Some rule) is e = of_status rule is (first_noted (status_noted rule) cs) refl e

    of_log : log_differs cs now p ≡ true → Has n by_notes
    of_log e =
        let noted = log_noted plan cs now told rolled_before p e in
        records_covered library plan now n noted.0 noted.2 noted.1 cs noted.3 (ap (λ (q : Path). place_of q (paths now.tree)) noted.4 ∙ here) noted.6 noted.5

    of_count : count_differs plan cs now p ≡ true → by_subject ≡ Some n
    of_count e =
        let both = both_true (is_path p plan.subject) (not (nat_eq (length (rewound cs now).alarms) (length now.alarms))) e in
        ap (λ (b : Bool). only_if b (option_and_then (λ (q : Path). place_of q (paths now.tree)) plan.subject)) both.1
        ∙ ap (option_and_then (λ (q : Path). place_of q (paths now.tree))) (path_is p plan.subject both.0)
        ∙ here

    go : OneOf (slot_differs cs now n) (other_by plan cs now (rule_of plan p)) (log_differs cs now p) (count_differs plan cs now p) → Has n (by_notes ++ option_to_list by_subject)
    go (inl e) = has_left n by_notes (option_to_list by_subject) (of_slot (first_noted (slot_noted n) cs) refl e)
    go (inr (inl e)) = has_left n by_notes (option_to_list by_subject) (of_rule (rule_of plan p) refl e)
    go (inr (inr (inl e))) = has_left n by_notes (option_to_list by_subject) (of_log e)
    go (inr (inr (inr e))) = has_right n by_notes (option_to_list by_subject) (has_one n by_subject (of_count e))

-- the own node of a number shows itself otherwise
abbrev pub IsOther : Plan → List Change → State → ℕ → Type 0
IsOther plan cs now n = (p : Path) × (place_of p (paths now.tree) ≡ Some n) × (differs plan (rewound cs now) (ended cs now) p ≡ true)

-- a slot that is noted is that of a node
abbrev pub IsNoted : State → Change → Type 0
IsNoted s (change.Slot id slot) = IsNode id.number s.tree
IsNoted s (change.Records place len) = Unit {0}
IsNoted s (change.Event rule status) = Unit {0}
IsNoted s (change.Contracts library) = Unit {0}

pub nodes_noted : (plan : Plan) (cs : List Change) (s : State) → CanRewind cs s → ChangesTell plan cs s → AllByRecursion (IsNoted s) cs
nodes_noted plan [] s can told = tt
nodes_noted plan (change.Slot id slot ∷ cs) s can told =
    ((told.0.0, ap (place_of told.0.0) (sym (paths_before cs s can.1)) ∙ told.0.1), nodes_noted plan cs s can.1 told.1)
nodes_noted plan (change.Records place len ∷ cs) s can told = (tt, nodes_noted plan cs s can.1 told.1)
nodes_noted plan (change.Event rule status ∷ cs) s can told = (tt, nodes_noted plan cs s can.1 told.1)
nodes_noted plan (change.Contracts library ∷ cs) s can told = (tt, nodes_noted plan cs s can.1 told.1)

all_of_option : (Q : ℕ → Type 0) (o : Option ℕ) (ns : List ℕ) → ((n : ℕ) → o ≡ Some n → Q n) → AllByRecursion Q ns → AllByRecursion Q (option_to_list o ++ ns)
all_of_option Q None ns one all = all
all_of_option Q (Some n) ns one all = (one n refl, all)

-- each number that is told is that of such a node
pub all_other : (plan : Plan) (cs : List Change) (now : State) → CanRewind cs now → ChangesTell plan cs now → IsSoundFor plan (rewound cs now) → Apart (keys now.logs)
    → AllByRecursion (IsOther plan cs now) (numbers_told plan cs now)
all_other plan cs now can told sound apart =
    all_both (IsOther plan cs now) (all_told library plan now [] cs) (option_to_list by_subject)
    (all_notes [] cs refl (nodes_noted plan cs now can told))
    (subst (λ (ns : List ℕ). AllByRecursion (IsOther plan cs now) ns) (no_more (option_to_list by_subject)) (all_of_option (IsOther plan cs now) by_subject [] (λ n e. of_subject n e) tt))
  where
    library : Contracts
    library = (rewound cs now).library

    by_subject : Option ℕ
    by_subject = subject_told plan now (length (rewound cs now).alarms)

    no_more : (ns : List ℕ) → ns ++ [] ≡ ns
    no_more [] = refl
    no_more (n ∷ ns) = ap (λ (l : List ℕ). n ∷ l) (no_more ns)

    is_other : (p : Path) (n : ℕ) → place_of p (paths now.tree) ≡ Some n
        → OneOf (slot_differs cs now n) (other_by plan cs now (rule_of plan p)) (log_differs cs now p) (count_differs plan cs now p) → IsOther plan cs now n
    is_other p n here one = (
      p,
      here,
      own_differs plan cs now can told sound p n here
          ∙ any_one (slot_differs cs now n) (other_by plan cs now (rule_of plan p)) (log_differs cs now p) (count_differs plan cs now p) one,
    )

    of_slot : (n : ℕ) (slot : Slot) (m : ℕ) → IsNode n now.tree → first_noted (slot_noted n) cs ≡ Some slot → other_slot library now n slot ≡ Some m → IsOther plan cs now m
    of_slot n slot m node noted e =
        let both = chosen (other_slot_in (standing_at library n now.tree) (head_at n now.tree) slot) (Some n) m e in
        let same : n ≡ m = some_number both.1 in
        subst (λ (k : ℕ). IsOther plan cs now k) same (is_other node.0 n node.1 (inl (ap (other_slot_by library now n) noted ∙ both.0)))
      where
        some_number : {a b : ℕ} → Some a ≡ Some b → a ≡ b
        some_number e = cc

    of_records : (place len n : ℕ) (o : Option (Path × Log)) → slice_get now.logs place ≡ o → first_noted (len_noted place) cs ≡ Some len
        → option_and_then (λ l. only_if (log_other len l.1) (place_of l.0 (paths now.tree))) o ≡ Some n → IsOther plan cs now n
    of_records place len n None there noted e = absurd cc
    of_records place len n (Some l) there noted e =
        let both = chosen (log_other len l.1) (place_of l.0 (paths now.tree)) n e in
        is_other l.0 n both.1 (inr (inr (inl (log_sound plan cs now told apart place l len there noted ∙ both.0))))

    of_rule : (rule n : ℕ) (status : Status) (o : Option PointRule) → slice_get plan.rules rule ≡ o → first_noted (status_noted rule) cs ≡ Some status
        → not (same_status status (status_of (numbered_from 0 plan.rules) now.alarms rule)) ≡ true
        → option_and_then (λ r. only_if (is_rule rule (rule_of plan r.source)) (place_of r.source (paths now.tree))) o ≡ Some n → IsOther plan cs now n
    of_rule rule n status None there noted other e = absurd cc
    of_rule rule n status (Some r) there noted other e =
        let both = chosen (is_rule rule (rule_of plan r.source)) (place_of r.source (paths now.tree)) n e in
        is_other r.source n both.1
        (inr (inl
        (ap (other_by plan cs now) (is_that_rule rule (rule_of plan r.source) both.0)
        ∙ ap
        (λ (o : Option Status). not (same_status (unwrap_or o (status_of (numbered_from 0 plan.rules) now.alarms rule)) (status_of (numbered_from 0 plan.rules) now.alarms rule)))
        noted
        ∙ other)))

    of_subject : (n : ℕ) → by_subject ≡ Some n → IsOther plan cs now n
    of_subject n e =
        let both = chosen (not (nat_eq (length (rewound cs now).alarms) (length now.alarms))) (option_and_then (λ (q : Path). place_of q (paths now.tree)) plan.subject) n e in
        named plan.subject refl both.0 both.1
      where
        named : (o : Option Path) → plan.subject ≡ o → not (nat_eq (length (rewound cs now).alarms) (length now.alarms)) ≡ true
            → option_and_then (λ q. place_of q (paths now.tree)) o ≡ Some n → IsOther plan cs now n
        named None is other e = absurd cc
        named (Some q) is other e =
            is_other q n e
            (inr (inr (inr
            (ap (λ (o : Option Path). is_path q o && not (nat_eq (length (rewound cs now).alarms) (length now.alarms))) is
            ∙ ap (λ (b : Bool). b && not (nat_eq (length (rewound cs now).alarms) (length now.alarms))) ((bytes_eq-Decides q q).1 refl)
            ∙ other))))

    of_note : (earlier rest : List Change) (c : Change) → earlier ++ c ∷ rest ≡ cs → IsNoted now c → is_first earlier c ≡ true → (n : ℕ) → told_by library plan now c ≡ Some n → IsOther plan cs now n
    of_note earlier rest (change.Slot id slot) all node first n e =
        of_slot id.number slot n node
        (ap (first_noted (slot_noted id.number)) (sym all)
        ∙ first_tells (slot_noted id.number) earlier rest (change.Slot id slot) slot (none_is (first_noted (slot_noted id.number) earlier) first)
        (ap (λ (b : Bool). only_if b (Some slot)) (same_number id.number)))
        e
    of_note earlier rest (change.Records place len) all node first n e =
        of_records place len n (slice_get now.logs place) refl
        (ap (first_noted (len_noted place)) (sym all)
        ∙ first_tells (len_noted place) earlier rest (change.Records place len) len (none_is (first_noted (len_noted place) earlier) first)
        (ap (λ (b : Bool). only_if b (Some len)) (same_number place)))
        e
    of_note earlier rest (change.Event rule status) all node first n e =
        let both = chosen (not (same_status status (status_of (numbered_from 0 plan.rules) now.alarms rule))) (node_with plan now rule) n e in
        of_rule rule n status (slice_get plan.rules rule) refl
        (ap (first_noted (status_noted rule)) (sym all)
        ∙ first_tells (status_noted rule) earlier rest (change.Event rule status) status (none_is (first_noted (status_noted rule) earlier) first)
        (ap (λ (b : Bool). only_if b (Some status)) (same_number rule)))
        both.0 both.1
    of_note earlier rest (change.Contracts replaced) all node first n e = absurd (true≢false (sym first))

    all_notes : (earlier rest : List Change) → earlier ++ rest ≡ cs → AllByRecursion (IsNoted now) rest → AllByRecursion (IsOther plan cs now) (all_told library plan now earlier rest)
    all_notes earlier [] all noted = tt
    all_notes earlier (c ∷ rest) all noted =
        all_of_option (IsOther plan cs now) (only_if (is_first earlier c) (told_by library plan now c)) (all_told library plan now (earlier ++ c ∷ []) rest)
        (λ n e.
        let both = chosen (is_first earlier c) (told_by library plan now c) n e in
        of_note earlier rest c all noted.0 both.0 n both.1)
        (all_notes (earlier ++ c ∷ []) rest (append_assoc earlier (c ∷ []) rest ∙ all) noted.1)
