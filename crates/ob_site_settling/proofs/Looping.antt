-- Going through notes and events one by one.
use Rattle.std.proofs.Common.{ℕ, ◌≡◌, zero, suc, ◌+◌, ◌<◌, ◌≤◌, Bool, true, false, not, cond, List, [], ◌∷◌, ◌++◌, map, length, take, drop, filter, get_or, All, Result, Ok, Err, Option, Some, None, option_map, refl, sym, ap, ◌∙◌, subst, append_assoc, arith}
use Rattle.std.specs.Prelude.{is_none, is_some, nat_eq, option_and_then, option_to_list, slice_get, unwrap_or, IfOk, OnOk}
use Rattle.std.specs.List.{AllByRecursion}
use Rattle.std.specs.BTreeSet.{BTreeSet, contains, Updates}
use Rattle.std.specs.Ordering.{nat_cmp}
use Rattle.std.specs.Cmp.{unsigned_tied}
use Rattle.std.proofs.Math.Seq.{drop-cons}
use Rattle.std.proofs.lemmas.List.{take_more}
use Rattle.std.proofs.lemmas.List.Elements.{All-from_recursion}
use Rattle.ob_values.proofs.Lists.{drop_all}
use Rattle.ob_object.specs.declared.head.Head.{Head}
use Rattle.ob_object.specs.declared.head.Slot.{Slot}
use Rattle.ob_object.specs.declared.status.Status.{Status}
use Rattle.ob_object.specs.Object.{Object, parts}
use Rattle.ob_contracts.specs.Inherit.{Contracts, or_else, only_if}
use Rattle.ob_alarms.specs.declared.alarm.Event.{Event}
use Rattle.ob_tree.specs.Contexts.{Context}
use Rattle.ob_tree.specs.Laid.{leaf, paths}
use Rattle.ob_tree.specs.Paths.{place_of}
use Rattle.ob_tree.specs.declared.node.NodeId.{NodeId}
use Rattle.ob_tree.proofs.Within.{place_within}
use Rattle.ob_shown_laws.specs.Following.{AreNumbers}
use Rattle.ob_step_laws.specs.Laws.{Apart}
use Rattle.ob_site_rules.specs.Build.{Path}
use Rattle.ob_site_rules.specs.declared.plan.Plan.{Plan}
use Rattle.ob_site_rules.specs.State.{Log, State, rolled, roll}
use Rattle.ob_shown_laws.specs.Alike.{DifferInValues}
use Rattle.ob_shown_laws.specs.Changed.{differs, head_in, same_values, same_log}
use Rattle.ob_ground.specs.Grounds.{Taught, WordsStand}
use Rattle.ob_ground.proofs.Telling.{told_unset}
use Rattle.ob_site_state.specs.declared.change.Change.{Change}
use Rattle.ob_site_state.specs.declared.change.Change.TheVariants as change
use Rattle.ob_site_state.specs.Changes.{cut, rewound, CanRewind, ChangesTell}
use Rattle.ob_site_state.specs.Kept.{Kept, keys, IsSoundFor}
use Rattle.ob_site_settling.specs.declared.seen.Seen.{Seen}
use Rattle.ob_site_settling.specs.Ending.{AreChanged}
use Rattle.ob_site_settling.specs.Seen.{HasSeen}
use Rattle.ob_site_settling.specs.Telling.{other_slot_in, other_records, first_noted, slot_noted, len_noted, status_noted, library_noted, events_noted, count_before_what, count_before, is_first, told_by, all_told, subject_told, ended_in_values, IsComparable}
use Rattle.ob_site_settling.proofs.Before.{parts_before, library_before, comparable, events_left, count_swaps}
use Rattle.ob_site_settling.proofs.Slots.{notes_are_values}
use Rattle.ob_site_settling.proofs.FirstTold.{noted_append, numbers_told}
use Rattle.ob_site_settling.proofs.Changing.{are_changed}

-- an item of a list, and those behind it
pub drop_item : {A : Type 0} (xs : List A) (i : ℕ) (x : A) → i < length xs → x ≡ get_or xs i x → drop i xs ≡ x ∷ drop (i + 1) xs
drop_item xs i x h is =
    let next : suc i ≡ i + 1 = omega arith in
    drop-cons xs i x h ∙ ap (λ y. y ∷ drop (suc i) xs) (sym is) ∙ ap (λ n. x ∷ drop n xs) next

pub take_item : {A : Type 0} (xs : List A) (i : ℕ) (x : A) → i < length xs → x ≡ get_or xs i x → take (i + 1) xs ≡ take i xs ++ x ∷ []
take_item xs i x h is = take_more xs i x h ∙ ap (λ y. take i xs ++ y ∷ []) (sym is)

-- libraries
pub library_next : (xs : List Change) (i : ℕ) (c : Change) → i < length xs → c ≡ get_or xs i c → library_noted c ≡ None
    → first_noted library_noted (drop i xs) ≡ first_noted library_noted xs → first_noted library_noted (drop (i + 1) xs) ≡ first_noted library_noted xs
library_next xs i c h is none so_far =
    sym
    (ap (first_noted library_noted) (drop_item xs i c h is)
    ∙ ap (λ (o : Option Contracts). or_else o (first_noted library_noted (drop (i + 1) xs))) none)
    ∙ so_far

pub library_here : (xs : List Change) (i : ℕ) (told : Taught) (c : Change) (k : Kept) → i < length xs → c ≡ get_or xs i c → c ≡ change.Contracts told
    → first_noted library_noted (drop i xs) ≡ first_noted library_noted xs → rewound xs k.now ≡ k.before → told.library ≡ k.before.library
library_here xs i told c k h is that so_far before =
    sym
    (ap (λ (s : State). s.library) (sym before)
    ∙ library_before xs k.now
    ∙ ap (λ (o : Option Contracts). unwrap_or o k.now.library)
    (sym so_far
    ∙ ap (first_noted library_noted) (drop_item xs i c h is)
    ∙ ap (λ (x : Change). or_else (library_noted x) (first_noted library_noted (drop (i + 1) xs))) that))

none_noted : (xs : List Change) (i : ℕ) → length xs ≤ i → first_noted library_noted (drop i xs) ≡ first_noted library_noted xs → first_noted library_noted xs ≡ None
none_noted xs i h so_far = sym so_far ∙ ap (first_noted library_noted) (drop_all xs i h)

-- Words that are told for the tree once the changes behind are taken back are told for the tree that is there: these change slots
-- alone.
tells_now : (cs : List Change) (s : State) (told : Taught) → WordsStand (rewound cs s).tree told → WordsStand s.tree told
tells_now [] s told t = t
tells_now (change.Slot node slot ∷ cs) s told t = tells_now cs s told (told_unset slot node.number (rewound cs s).tree told t)
tells_now (change.Records place len ∷ cs) s told t = tells_now cs s told t
tells_now (change.Event rule status ∷ cs) s told t = tells_now cs s told t
tells_now (change.Contracts other ∷ cs) s told t = tells_now cs s told t

can_drop : (i : ℕ) (xs : List Change) (s : State) → CanRewind xs s → CanRewind (drop i xs) s
can_drop zero xs s can = can
can_drop (suc i) [] s can = can
can_drop (suc i) (x ∷ xs) s can = can_drop i xs s can.1

pub tells_here : (xs : List Change) (i : ℕ) (told : Taught) (c : Change) (s : State) → i < length xs → c ≡ get_or xs i c → c ≡ change.Contracts told → CanRewind xs s → WordsStand s.tree told
tells_here xs i told c s h is that can =
    let there : CanRewind (change.Contracts told ∷ drop (i + 1) xs) s =
    subst (λ (x : Change). CanRewind (x ∷ drop (i + 1) xs) s) that (subst (λ (l : List Change). CanRewind l s) (drop_item xs i c h is) (can_drop i xs s can)) in
    tells_now (drop (i + 1) xs) s told there.0

pub library_stays : (xs : List Change) (i : ℕ) (k : Kept) → length xs ≤ i → first_noted library_noted (drop i xs) ≡ first_noted library_noted xs → rewound xs k.now ≡ k.before
    → k.now.library ≡ k.before.library
library_stays xs i k h so_far before =
    sym
    (ap (λ (s : State). s.library) (sym before)
    ∙ library_before xs k.now
    ∙ ap (λ (o : Option Contracts). unwrap_or o k.now.library) (none_noted xs i h so_far))

pub values_alone : (xs : List Change) (i : ℕ) (k : Kept) → length xs ≤ i → first_noted library_noted (drop i xs) ≡ first_noted library_noted xs → rewound xs k.now ≡ k.before
    → CanRewind xs k.now → ChangesTell k.plan xs k.now → DifferInValues k.before (roll k.now)
values_alone xs i k h so_far before can told =
    let values = notes_are_values k.plan xs k.now can told in
    subst (λ (s : State). DifferInValues s (roll k.now)) before
    (record {
      library = ap (λ (s : State). s.library) before ∙ sym (library_stays xs i k h so_far before);
      tree = values.tree;
      histories = values.histories;
    })

-- events
pub count_next : (es : List Event) (i count before : ℕ) (e : Event) → i < length es → e ≡ get_or es i e → count_before (drop i es) before ≡ count_before es count
    → count_before (drop (i + 1) es) (count_before_what e.what e.number before) ≡ count_before es count
count_next es i count before e h is so_far =
    count_swaps e.what e.number (drop (i + 1) es) before
    ∙ ap (λ (l : List Event). count_before l before) (sym (drop_item es i e h is))
    ∙ so_far

pub count_all : (es : List Event) (i count before : ℕ) → length es ≤ i → count_before (drop i es) before ≡ count_before es count → before ≡ count_before es count
count_all es i count before h so_far = ap (λ (l : List Event). count_before l before) (sym (drop_all es i h)) ∙ so_far

-- of the events of the board those behind the beginning of the step
pub few_noted : (xs : List Change) (s : State) → CanRewind xs s → events_noted xs ≤ length s.events
few_noted xs s can = let left = events_left xs s can in let sum : left.0 + events_noted xs ≡ length s.events = left.1 in omega (arith, sum)

pub alarms_were : (xs : List Change) (k : Kept) (from : ℕ) (es : List Event) (count : ℕ) → CanRewind xs k.now → rewound xs k.now ≡ k.before → from + events_noted xs ≡ length k.now.events
    → es ≡ drop from k.now.events → count ≡ length k.now.alarms → count_before es count ≡ length k.before.alarms
alarms_were xs k from es count can before all events alarms =
    let left = events_left xs k.now can in
    let sum : left.0 + events_noted xs ≡ length k.now.events = left.1 in
    let same : from ≡ left.0 = omega (arith, sum, all) in
    ap (λ (n : ℕ). count_before es n) alarms
    ∙ ap (λ (l : List Event). count_before l (length k.now.alarms)) (events ∙ ap (λ (n : ℕ). drop n k.now.events) same)
    ∙ sym left.3
    ∙ ap (λ (s : State). length s.alarms) before

-- what was seen
seen_more : {A : Type 0} (part : ℕ → Change → Option A) (earlier : List Change) (c : Change) (old new : BTreeSet ℕ) (number : ℕ)
    → ((n : ℕ) → is_some (part n c) ≡ nat_eq number n)
    → ((n : ℕ) → contains nat_cmp old n ≡ is_some (first_noted (part n) earlier)) → Updates nat_cmp old new number true
    → (n : ℕ) → contains nat_cmp new n ≡ is_some (first_noted (part n) (earlier ++ c ∷ []))
seen_more {A} part earlier c old new number here before updates n =
    updates.0 n
    ∙ ap (λ (b : Bool). cond b true (contains nat_cmp old n)) (unsigned_tied number n)
    ∙ ap (λ (b : Bool). cond (nat_eq number n) true b) (before n)
    ∙ ap (λ (b : Bool). cond b true (is_some (first_noted (part n) earlier))) (sym (here n))
    ∙ either (first_noted (part n) earlier) (part n c)
    ∙ ap (λ o. is_some o) (sym (noted_append (part n) earlier (c ∷ [])))
  where
    either : (a b : Option A) → cond (is_some b) true (is_some a) ≡ is_some (or_else a (or_else b None))
    either None None = refl
    either None (Some y) = refl
    either (Some x) None = refl
    either (Some x) (Some y) = refl

seen_still : {A : Type 0} (part : ℕ → Change → Option A) (earlier : List Change) (c : Change) (old : BTreeSet ℕ) → ((n : ℕ) → part n c ≡ None)
    → ((n : ℕ) → contains nat_cmp old n ≡ is_some (first_noted (part n) earlier)) → (n : ℕ) → contains nat_cmp old n ≡ is_some (first_noted (part n) (earlier ++ c ∷ []))
seen_still {A} part earlier c old none before n =
    before n
    ∙ ap (λ o. is_some o) (left (first_noted (part n) earlier) ∙ ap (λ o. or_else (first_noted (part n) earlier) (or_else o None)) (sym (none n)) ∙ sym (noted_append (part n) earlier (c ∷ [])))
  where
    left : (a : Option A) → a ≡ or_else a None
    left None = refl
    left (Some x) = refl

only_some : {A : Type 0} (b : Bool) (x : A) → is_some (only_if b (Some x)) ≡ b
only_some true x = refl
only_some false x = refl

node_seen : (earlier : List Change) (id : NodeId) (slot : Slot) (old new : Seen) → Updates nat_cmp old.nodes new.nodes id.number true → new.places ≡ old.places → new.rules ≡ old.rules
    → HasSeen earlier old → HasSeen (earlier ++ change.Slot id slot ∷ []) new
node_seen earlier id slot old new updates places rules seen = record {
  nodes = seen_more slot_noted earlier (change.Slot id slot) old.nodes new.nodes id.number (λ n. only_some (nat_eq id.number n) slot) seen.nodes updates;
  places = λ n. ap (λ (s : BTreeSet ℕ). contains nat_cmp s n) places ∙ seen_still len_noted earlier (change.Slot id slot) old.places (λ m. refl) seen.places n;
  rules = λ n. ap (λ (s : BTreeSet ℕ). contains nat_cmp s n) rules ∙ seen_still status_noted earlier (change.Slot id slot) old.rules (λ m. refl) seen.rules n;
}

place_seen : (earlier : List Change) (place len : ℕ) (old new : Seen) → Updates nat_cmp old.places new.places place true → new.nodes ≡ old.nodes → new.rules ≡ old.rules
    → HasSeen earlier old → HasSeen (earlier ++ change.Records place len ∷ []) new
place_seen earlier place len old new updates nodes rules seen = record {
  nodes = λ n. ap (λ (s : BTreeSet ℕ). contains nat_cmp s n) nodes ∙ seen_still slot_noted earlier (change.Records place len) old.nodes (λ m. refl) seen.nodes n;
  places = seen_more len_noted earlier (change.Records place len) old.places new.places place (λ n. only_some (nat_eq place n) len) seen.places updates;
  rules = λ n. ap (λ (s : BTreeSet ℕ). contains nat_cmp s n) rules ∙ seen_still status_noted earlier (change.Records place len) old.rules (λ m. refl) seen.rules n;
}

rule_seen : (earlier : List Change) (rule : ℕ) (status : Status) (old new : Seen) → Updates nat_cmp old.rules new.rules rule true → new.nodes ≡ old.nodes → new.places ≡ old.places
    → HasSeen earlier old → HasSeen (earlier ++ change.Event rule status ∷ []) new
rule_seen earlier rule status old new updates nodes places seen = record {
  nodes = λ n. ap (λ (s : BTreeSet ℕ). contains nat_cmp s n) nodes ∙ seen_still slot_noted earlier (change.Event rule status) old.nodes (λ m. refl) seen.nodes n;
  places = λ n. ap (λ (s : BTreeSet ℕ). contains nat_cmp s n) places ∙ seen_still len_noted earlier (change.Event rule status) old.places (λ m. refl) seen.places n;
  rules = seen_more status_noted earlier (change.Event rule status) old.rules new.rules rule (λ n. only_some (nat_eq rule n) status) seen.rules updates;
}

library_seen : (earlier : List Change) (told : Taught) (old : Seen) → HasSeen earlier old → HasSeen (earlier ++ change.Contracts told ∷ []) old
library_seen earlier told old seen = record {
  nodes = λ n. seen_still slot_noted earlier (change.Contracts told) old.nodes (λ m. refl) seen.nodes n;
  places = λ n. seen_still len_noted earlier (change.Contracts told) old.places (λ m. refl) seen.places n;
  rules = λ n. seen_still status_noted earlier (change.Contracts told) old.rules (λ m. refl) seen.rules n;
}

-- a new one is the first
not_seen : {A : Type 0} (o : Option A) (new b : Bool) → new ≡ not b → b ≡ is_some o → new ≡ is_none o
not_seen None new b is test = is ∙ ap not test
not_seen (Some x) new b is test = is ∙ ap not test

-- what holds on success, and what follows from it
if_ok : {A E : Type 0} (P Q : A → Type 0) (r : Result A E) → IfOk r P → ((x : A) → P x → Q x) → IfOk r Q
if_ok P Q (Ok x) h f = f x h
if_ok P Q (Err e) h f = tt

on_ok : {A E : Type 0} (P Q : Type 0) (r : Result A E) → OnOk r P → (P → Q) → OnOk r Q
on_ok P Q (Ok x) h f = f h
on_ok P Q (Err e) h f = tt

pub node_first : {E : Type 0} (r : Result Bool E) (c : Change) (id : NodeId) (slot : Slot) (seen : Seen) → c ≡ change.Slot id slot
    → IfOk r (λ new. new ≡ not (contains nat_cmp seen.nodes id.number)) → IfOk r (λ first. (earlier : List Change) → HasSeen earlier seen → first ≡ is_first earlier c)
node_first r c id slot seen is new =
    if_ok (λ first. first ≡ not (contains nat_cmp seen.nodes id.number)) (λ first. (earlier : List Change) → HasSeen earlier seen → first ≡ is_first earlier c) r new
    (λ first e earlier has. not_seen (first_noted (slot_noted id.number) earlier) first (contains nat_cmp seen.nodes id.number) e (has.nodes id.number) ∙ ap (is_first earlier) (sym is))

pub place_first : {E : Type 0} (r : Result Bool E) (c : Change) (place len : ℕ) (seen : Seen) → c ≡ change.Records place len
    → IfOk r (λ new. new ≡ not (contains nat_cmp seen.places place)) → IfOk r (λ first. (earlier : List Change) → HasSeen earlier seen → first ≡ is_first earlier c)
place_first r c place len seen is new =
    if_ok (λ first. first ≡ not (contains nat_cmp seen.places place)) (λ first. (earlier : List Change) → HasSeen earlier seen → first ≡ is_first earlier c) r new
    (λ first e earlier has. not_seen (first_noted (len_noted place) earlier) first (contains nat_cmp seen.places place) e (has.places place) ∙ ap (is_first earlier) (sym is))

pub rule_first : {E : Type 0} (r : Result Bool E) (c : Change) (rule : ℕ) (status : Status) (seen : Seen) → c ≡ change.Event rule status
    → IfOk r (λ new. new ≡ not (contains nat_cmp seen.rules rule)) → IfOk r (λ first. (earlier : List Change) → HasSeen earlier seen → first ≡ is_first earlier c)
rule_first r c rule status seen is new =
    if_ok (λ first. first ≡ not (contains nat_cmp seen.rules rule)) (λ first. (earlier : List Change) → HasSeen earlier seen → first ≡ is_first earlier c) r new
    (λ first e earlier has. not_seen (first_noted (status_noted rule) earlier) first (contains nat_cmp seen.rules rule) e (has.rules rule) ∙ ap (is_first earlier) (sym is))

pub node_now : {E : Type 0} (r : Result Bool E) (c : Change) (id : NodeId) (slot : Slot) (old new : Seen) → c ≡ change.Slot id slot → OnOk r (Updates nat_cmp old.nodes new.nodes id.number true)
    → new.places ≡ old.places → new.rules ≡ old.rules → OnOk r ((earlier : List Change) → HasSeen earlier old → HasSeen (earlier ++ c ∷ []) new)
node_now r c id slot old new is updates places rules =
    on_ok (Updates nat_cmp old.nodes new.nodes id.number true) ((earlier : List Change) → HasSeen earlier old → HasSeen (earlier ++ c ∷ []) new) r updates
    (λ u earlier has. subst (λ (x : Change). HasSeen (earlier ++ x ∷ []) new) (sym is) (node_seen earlier id slot old new u places rules has))

pub place_now : {E : Type 0} (r : Result Bool E) (c : Change) (place len : ℕ) (old new : Seen) → c ≡ change.Records place len → OnOk r (Updates nat_cmp old.places new.places place true)
    → new.nodes ≡ old.nodes → new.rules ≡ old.rules → OnOk r ((earlier : List Change) → HasSeen earlier old → HasSeen (earlier ++ c ∷ []) new)
place_now r c place len old new is updates nodes rules =
    on_ok (Updates nat_cmp old.places new.places place true) ((earlier : List Change) → HasSeen earlier old → HasSeen (earlier ++ c ∷ []) new) r updates
    (λ u earlier has. subst (λ (x : Change). HasSeen (earlier ++ x ∷ []) new) (sym is) (place_seen earlier place len old new u nodes rules has))

pub rule_now : {E : Type 0} (r : Result Bool E) (c : Change) (rule : ℕ) (status : Status) (old new : Seen) → c ≡ change.Event rule status → OnOk r (Updates nat_cmp old.rules new.rules rule true)
    → new.nodes ≡ old.nodes → new.places ≡ old.places → OnOk r ((earlier : List Change) → HasSeen earlier old → HasSeen (earlier ++ c ∷ []) new)
rule_now r c rule status old new is updates nodes places =
    on_ok (Updates nat_cmp old.rules new.rules rule true) ((earlier : List Change) → HasSeen earlier old → HasSeen (earlier ++ c ∷ []) new) r updates
    (λ u earlier has. subst (λ (x : Change). HasSeen (earlier ++ x ∷ []) new) (sym is) (rule_seen earlier rule status old new u nodes places has))

pub library_now : (c : Change) (told : Taught) (old : Seen) → c ≡ change.Contracts told → (earlier : List Change) → HasSeen earlier old → HasSeen (earlier ++ c ∷ []) old
library_now c told old is earlier has = subst (λ (x : Change). HasSeen (earlier ++ x ∷ []) old) (sym is) (library_seen earlier told old has)

-- the numbers of nodes
abbrev pub numbers : List NodeId → List ℕ
numbers nodes = map (λ node. node.number) nodes

pub told_next : (library : Contracts) (plan : Plan) (s : State) (xs : List Change) (i : ℕ) (c : Change) (so_far new all : List ℕ) → i < length xs → c ≡ get_or xs i c
    → so_far ++ all_told library plan s (take i xs) (drop i xs) ≡ all
    → new ≡ so_far ++ option_to_list (only_if (is_first (take i xs) c) (told_by library plan s c))
    → new ++ all_told library plan s (take (i + 1) xs) (drop (i + 1) xs) ≡ all
told_next library plan s xs i c so_far new all h is before more =
    ap (λ (ns : List ℕ). ns ++ all_told library plan s (take (i + 1) xs) (drop (i + 1) xs)) more
    ∙ append_assoc so_far one (all_told library plan s (take (i + 1) xs) (drop (i + 1) xs))
    ∙ ap (λ (cs : List Change). so_far ++ (one ++ all_told library plan s cs (drop (i + 1) xs))) (take_item xs i c h is)
    ∙ ap (λ (cs : List Change). so_far ++ all_told library plan s (take i xs) cs) (sym (drop_item xs i c h is))
    ∙ before
  where
    one : List ℕ
    one = option_to_list (only_if (is_first (take i xs) c) (told_by library plan s c))

pub told_all : (library : Contracts) (plan : Plan) (s : State) (xs : List Change) (i : ℕ) (so_far all : List ℕ) → length xs ≤ i
    → so_far ++ all_told library plan s (take i xs) (drop i xs) ≡ all → so_far ≡ all
told_all library plan s xs i so_far all h before =
    sym (ap (λ (cs : List Change). so_far ++ all_told library plan s (take i xs) cs) (drop_all xs i h) ∙ no_more so_far) ∙ before
  where
    no_more : (ns : List ℕ) → ns ++ [] ≡ ns
    no_more [] = refl
    no_more (n ∷ ns) = ap (λ (l : List ℕ). n ∷ l) (no_more ns)

pub can_compare : (plan : Plan) (xs : List Change) (s : State) → CanRewind xs s → ChangesTell plan xs s → All (IsComparable s) xs
can_compare plan xs s can told = All-from_recursion (IsComparable s) xs (comparable plan xs s can told)

-- an object that is compared with itself under another slot
pub shown_slot : (o : Option Context) (h : Option Head) (slot copied : Slot) (c : Context) (own again before set : Object) (result : Bool)
    → Some c ≡ o → Some own ≡ option_map leaf h → Some again ≡ option_map leaf h → copied ≡ slot → before ≡ own → set ≡ record before { head = record before.head { slot = copied } }
    → result ≡ not (same_values (head_in c set.head) (head_in c again.head)) → result ≡ other_slot_in o h slot
shown_slot o None slot copied c own again before set result stands is is_again as_slot as_own as_set test = absurd cc
shown_slot None (Some k) slot copied c own again before set result stands is is_again as_slot as_own as_set test = absurd cc
shown_slot (Some d) (Some k) slot copied c own again before set result stands is is_again as_slot as_own as_set test =
    let same : c ≡ d = cc in
    let first : own ≡ leaf k = cc in
    let second : again ≡ leaf k = cc in
    let value : set.head ≡ record k { slot = slot } =
    ap (λ (x : Object). x.head) as_set
    ∙ ap (λ (x : Object). let y : Head = record x.head { slot = copied } in y) (as_own ∙ first)
    ∙ ap (λ (x : Slot). let y : Head = record k { slot = x } in y) as_slot in
    test
    ∙ ap (λ (x : Head). not (same_values (head_in c x) (head_in c again.head))) value
    ∙ ap (λ (x : Object). not (same_values (head_in c (record k { slot = slot })) (head_in c x.head))) second
    ∙ ap (λ (x : Context). not (same_values (head_in x (record k { slot = slot })) (head_in x k))) same

-- the node of a history that shows itself otherwise
pub records_other : (s : State) (place len : ℕ) (l : Path × Log) (log : Log) (path : Path) (is : Bool) (o : Option ℕ) → slice_get s.logs place ≡ Some l → log ≡ l.1
    → is ≡ not (same_log (Some (cut len log)) (Some (rolled log))) → is ≡ true → path ≡ l.0 → o ≡ place_of path (paths s.tree) → o ≡ other_records s place len
records_other s place len l log path is o there same test holds named found =
    found
    ∙ ap (λ (p : Path). place_of p (paths s.tree)) named
    ∙ ap (λ (b : Bool). only_if b (place_of l.0 (paths s.tree))) (sym holds ∙ test ∙ ap (λ (m : Log). not (same_log (Some (cut len m)) (Some (rolled m)))) same)
    ∙ ap (option_and_then (λ (x : Path × Log). only_if (not (same_log (Some (cut len x.1)) (Some (rolled x.1)))) (place_of x.0 (paths s.tree)))) (sym there)

-- all together
are_changed_nodes : (k : Kept) (xs : List Change) (library : Contracts) (ms ns : List ℕ) (o : Option ℕ) → rewound xs k.now ≡ k.before → CanRewind xs k.now → ChangesTell k.plan xs k.now
    → roll k.before ≡ k.before → IsSoundFor k.plan k.before → keys k.now.logs ≡ map (λ h. h.0) k.plan.histories → Apart (map (λ h. h.0) k.plan.histories)
    → library ≡ k.before.library → ms ≡ all_told library k.plan k.now [] xs → o ≡ subject_told k.plan k.now (length k.before.alarms) → ns ≡ ms ++ option_to_list o
    → AreChanged k.plan k.before (ended_in_values k) ns
are_changed_nodes k xs library ms ns o before can told rolled sound same apart lib notes subject all =
    subst (λ (l : List ℕ). AreChanged k.plan k.before (ended_in_values k) l)
    (sym
    (all
    ∙ ap (λ (l : List ℕ). l ++ option_to_list o) (notes ∙ ap (λ (c : Contracts). all_told c k.plan k.now [] xs) (lib ∙ ap (λ (s : State). s.library) (sym before)))
    ∙ ap (λ (p : Option ℕ). all_told (rewound xs k.now).library k.plan k.now [] xs ++ option_to_list p)
    (subject ∙ ap (λ (s : State). subject_told k.plan k.now (length s.alarms)) (sym before))))
    (subst (λ (s : State). AreChanged k.plan s (record (roll k.now) { library = s.library }) (numbers_told k.plan xs k.now)) before
    (are_changed k.plan xs k.now can told
    (subst (λ (s : State). roll s ≡ s) (sym before) rolled)
    (subst (λ (s : State). IsSoundFor k.plan s) (sym before) sound)
    same apart))

all_within : (o : Object) (ps : List Path) (ns : List ℕ) → AreNumbers o ps ns → AllByRecursion (λ n. n < parts o) ns
all_within o [] [] are = tt
all_within o [] (n ∷ ns) are = absurd are
all_within o (p ∷ ps) [] are = absurd are
all_within o (p ∷ ps) (n ∷ ns) are = (place_within o p n are.0, all_within o ps ns are.1)

nodes_within : (k : Kept) (xs : List Change) (nodes : List NodeId) → rewound xs k.now ≡ k.before → AreChanged k.plan k.before (ended_in_values k) (numbers nodes)
    → All (λ node. node.number < parts k.now.tree) nodes
nodes_within k xs nodes before changed =
    All-from_recursion (λ node. node.number < parts k.now.tree) nodes
    (of_nodes nodes
    (all_within k.before.tree (filter (differs k.plan k.before (ended_in_values k)) changed.looked) (numbers nodes) changed.numbers))
  where
    same : parts k.before.tree ≡ parts k.now.tree
    same = ap (λ (s : State). parts s.tree) (sym before) ∙ parts_before xs k.now

    of_nodes : (nodes : List NodeId) → AllByRecursion (λ n. n < parts k.before.tree) (numbers nodes) → AllByRecursion (λ node. node.number < parts k.now.tree) nodes
    of_nodes [] all = tt
    of_nodes (n ∷ nodes) all = (subst (λ (m : ℕ). n.number < m) same all.0, of_nodes nodes all.1)

-- a state with the library that it has
same_library : (library : Contracts) (s : State) → library ≡ s.library → record s { library = library } ≡ s
same_library library s e = ap (λ (l : Contracts). let t : State = record s { library = l } in t) e

pub changed_nodes : (k : Kept) (xs : List Change) (library : Contracts) (ms : List ℕ) (nodes : List NodeId) (o : Option ℕ) → rewound xs k.now ≡ k.before → CanRewind xs k.now → ChangesTell k.plan xs k.now
    → roll k.before ≡ k.before → IsSoundFor k.plan k.before → keys k.now.logs ≡ map (λ h. h.0) k.plan.histories → Apart (map (λ h. h.0) k.plan.histories)
    → library ≡ k.before.library → ms ≡ all_told library k.plan k.now [] xs → o ≡ subject_told k.plan k.now (length k.before.alarms) → numbers nodes ≡ ms ++ option_to_list o
    → AreChanged k.plan k.before (ended_in_values k) (numbers nodes)
    × (DifferInValues k.before (roll k.now) → AreChanged k.plan k.before (roll k.now) (numbers nodes))
    × All (λ node. node.number < parts k.now.tree) nodes
changed_nodes k xs library ms nodes o before can told rolled sound same apart lib notes subject all =
    let are : AreChanged k.plan k.before (ended_in_values k) (numbers nodes) = are_changed_nodes k xs library ms (numbers nodes) o before can told rolled sound same apart lib notes subject all in (
      are,
      (λ values. subst (λ (t : State). AreChanged k.plan k.before t (numbers nodes)) (same_library k.before.library (roll k.now) values.library) are),
      nodes_within k xs nodes before are,
    )
