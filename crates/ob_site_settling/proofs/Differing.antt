-- Whether an own node shows itself otherwise at the end of a step is told by its first notes.
use Rattle.std.proofs.Common.{ℕ, ◌≡◌, zero, suc, Bool, true, false, not, ◌&&◌, ◌||◌, cond, List, [], ◌∷◌, map, length, Option, Some, None, option_map, refl, sym, ap, ap₂, ◌∙◌, subst, true≢false}
use Rattle.std.specs.Prelude.{nat_eq, find, slice_get, unwrap_or}
use Rattle.std.specs.Str.{bytes_eq}
use Rattle.std.proofs.lemmas.Bool.{eq-eqb, eqb-true}
use Rattle.std.proofs.lemmas.Slice.Eq.{bytes_eq-Decides}
use Rattle.ob_values.proofs.Bools.{not_not}
use Rattle.ob_object.specs.declared.head.Head.{Head}
use Rattle.ob_object.specs.declared.head.Slot.{Slot}
use Rattle.ob_object.specs.declared.status.Status.{Status}
use Rattle.ob_object.specs.Paths.{is_path, node_path}
use Rattle.ob_contracts.specs.Inherit.{Contracts}
use Rattle.ob_tree.specs.Contexts.{Context, under}
use Rattle.ob_alarms.specs.States.{status_of}
use Rattle.ob_tree.specs.Laid.{heads_of, head_at, paths}
use Rattle.ob_tree.specs.Paths.{place_of}
use Rattle.ob_tree.specs.Shown.{handed_at, standing_at}
use Rattle.ob_tree.proofs.Within.{place_within}
use Rattle.ob_shown_laws.proofs.Owned.{own_trees_tell, own_trees_tell_changes}
use Rattle.ob_step_laws.specs.Laws.{Apart}
use Rattle.ob_site_rules.specs.Build.{Path, number_slot}
use Rattle.ob_site_rules.specs.State.{Log, State, at, is_among, numbered_from, roll, rolled, rolled_logs}
use Rattle.ob_site_rules.specs.declared.plan.Plan.{Plan}
use Rattle.ob_site_rules.specs.Sameness.{same_slot, same_option, same_status}
use Rattle.ob_site_rules.specs.Shown.{rule_of, with_status, with_status_at, with_status_by}
use Rattle.ob_site_laws.proofs.Same.{tells_slot, tells_option, tells_status}
use Rattle.ob_shown_laws.specs.Alike.{DifferInValues}
use Rattle.ob_shown_laws.specs.Changed.{differs, head_in, same_values, same_log, same_derived, start_slot, end_slot}
use Rattle.ob_step_laws.specs.Defaults.{with_library}
use Rattle.ob_site_state.specs.declared.change.Change.{Change}
use Rattle.ob_site_state.specs.Changes.{cut, rewound, CanRewind, ChangesTell}
use Rattle.ob_site_state.specs.Kept.{keys, IsSoundFor}
use Rattle.ob_site_state.proofs.Rewinding.{set_to}
use Rattle.ob_site_state.proofs.Noting.{head_there}
use Rattle.ob_site_settling.specs.Telling.{first_noted, slot_noted, len_noted, status_noted, other_slot_in}
use Rattle.ob_site_settling.proofs.Before.{noted_head, head_before, status_before, noted_log, log_before}
use Rattle.ob_site_settling.proofs.Slots.{placed, notes_are_values}
use Rattle.ob_site_settling.proofs.Notes.{got_map, paths_before, keys_before, at-rolled}
use Rattle.ob_site_settling.proofs.Records.{number_of}

-- logs of a history
log_itself : (l : Log) → same_log (Some l) (Some l) ≡ true
log_itself l =
    all (same_slot (number_slot (length l.kept)) (number_slot (length l.kept))) (same_slot (start_slot l) (start_slot l)) (same_slot (end_slot l) (end_slot l))
    (tells_slot.itself (number_slot (length l.kept))) (tells_slot.itself (start_slot l)) (tells_slot.itself (end_slot l))
  where
    all : (a b c : Bool) → a ≡ true → b ≡ true → c ≡ true → (a && (b && c)) ≡ true
    all true true true e f g = refl
    all false b c e f g = absurd (true≢false (sym e))
    all true false c e f g = absurd (true≢false (sym f))
    all true true false e f g = absurd (true≢false (sym g))

-- counts are shown as the same where they are
pub counts_same : (m n : ℕ) → same_slot (number_slot m) (number_slot n) ≡ nat_eq m n
counts_same m n = go (same_slot (number_slot m) (number_slot n)) (nat_eq m n) refl refl
  where
    go : (a b : Bool) → same_slot (number_slot m) (number_slot n) ≡ a → nat_eq m n ≡ b → a ≡ b
    go true true e f = refl
    go false false e f = refl
    go true false e f = absurd (true≢false (sym (eq-eqb m n (number_of m n (tells_slot.equal (number_slot m) (number_slot n) e))) ∙ f))
    go false true e f =
        absurd (true≢false (sym (subst (λ (k : ℕ). same_slot (number_slot m) (number_slot k) ≡ true) (eqb-true m n f) (tells_slot.itself (number_slot m))) ∙ e))

-- what stands under the path of a place
pub at_apart : (ls : List (Path × Log)) (i : ℕ) (l : Path × Log) → Apart (keys ls) → slice_get ls i ≡ Some l → at l.0 ls ≡ Some l.1
at_apart [] i l apart e = absurd cc
at_apart (k ∷ ls) zero l apart e =
    let same : k ≡ l = cc in
    subst (λ (x : Path × Log). at x.0 (k ∷ ls) ≡ Some x.1) same
    (ap (λ (b : Bool). option_map (λ (x : Path × Log). x.1) (cond b (Some k) (find (λ x. bytes_eq x.0 k.0) ls))) ((bytes_eq-Decides k.0 k.0).1 refl))
at_apart (k ∷ ls) (suc i) l apart e = go (bytes_eq k.0 l.0) refl (at_apart ls i l apart.1 e)
  where
    among : (ls : List (Path × Log)) (i : ℕ) → slice_get ls i ≡ Some l → is_among l.0 (keys ls) ≡ true
    among [] i e = absurd cc
    among (x ∷ ls) zero e =
        let same : x ≡ l = cc in
        ap (λ (b : Bool). b || is_among l.0 (keys ls)) ((bytes_eq-Decides x.0 l.0).1 (ap (λ (y : Path × Log). y.0) same))
    among (x ∷ ls) (suc i) e = or_true (bytes_eq x.0 l.0) (is_among l.0 (keys ls)) (among ls i e)
      where
        or_true : (a b : Bool) → b ≡ true → (a || b) ≡ true
        or_true true b e = refl
        or_true false b e = e

    go : (b : Bool) → bytes_eq k.0 l.0 ≡ b → at l.0 ls ≡ Some l.1 → option_map (λ x. x.1) (cond b (Some k) (find (λ x. bytes_eq x.0 l.0) ls)) ≡ Some l.1
    go true is behind =
        absurd
        (true≢false
        (sym (among ls i e) ∙ ap (λ (p : Path). is_among p (keys ls)) (sym ((bytes_eq-Decides k.0 l.0).0 is)) ∙ apart.0))
    go false is behind = behind

-- where it stands, and what stands there in logs of the same paths
pub at_found : (p : Path) (ls ms : List (Path × Log)) (m : Log) → keys ms ≡ keys ls → at p ls ≡ Some m
    → (i : ℕ) × (l : Path × Log) × (slice_get ls i ≡ Some l) × (l.0 ≡ p) × (l.1 ≡ m) × ((x : Path × Log) → slice_get ms i ≡ Some x → at p ms ≡ Some x.1)
at_found p [] ms m same e = absurd cc
at_found p (l ∷ ls) [] m same e = absurd cc
at_found p (l ∷ ls) (k ∷ ms) m same e = go (bytes_eq l.0 p) refl e (λ f. at_found p ls ms m rest f)
  where
    first : k.0 ≡ l.0
    first = cc

    rest : keys ms ≡ keys ls
    rest = cc

    go : (b : Bool) → bytes_eq l.0 p ≡ b → option_map (λ x. x.1) (cond b (Some l) (find (λ x. bytes_eq x.0 p) ls)) ≡ Some m
        → (at p ls ≡ Some m → (i : ℕ) × (x : Path × Log) × (slice_get ls i ≡ Some x) × (x.0 ≡ p) × (x.1 ≡ m) × ((x : Path × Log) → slice_get ms i ≡ Some x → at p ms ≡ Some x.1))
        → (i : ℕ) × (x : Path × Log) × (slice_get (l ∷ ls) i ≡ Some x) × (x.0 ≡ p) × (x.1 ≡ m) × ((x : Path × Log) → slice_get (k ∷ ms) i ≡ Some x → at p (k ∷ ms) ≡ Some x.1)
    go true is e behind =
        let same : l.1 ≡ m = cc in (
          0,
          l,
          refl,
          (bytes_eq-Decides l.0 p).0 is,
          same,
          λ x f.
              let one : k ≡ x = cc in
              ap (λ (b : Bool). option_map (λ (y : Path × Log). y.1) (cond b (Some k) (find (λ y. bytes_eq y.0 p) ms))) (ap (λ (q : Path). bytes_eq q p) first ∙ is)
              ∙ ap (λ (y : Path × Log). Some y.1) one,
        )
    go false is e behind =
        let later = behind e in (
          suc later.0,
          later.1,
          later.2,
          later.3,
          later.4,
          λ x f.
              ap (λ (b : Bool). option_map (λ (y : Path × Log). y.1) (cond b (Some k) (find (λ y. bytes_eq y.0 p) ms))) (ap (λ (q : Path). bytes_eq q p) first ∙ is)
              ∙ later.5 x f,
        )

-- nothing stands there in logs of the same paths
pub at_none : (p : Path) (ls ms : List (Path × Log)) → keys ms ≡ keys ls → at p ls ≡ None → at p ms ≡ None
at_none p ls ms same e = go (at p ms) refl
  where
    go : (o : Option Log) → at p ms ≡ o → o ≡ None
    go None f = refl
    go (Some m) f =
        let found = at_found p ms ls m (sym same) f in
        absurd (there found.0 found.1 found.2 found.5)
      where
        got : (i : ℕ) (xs ys : List (Path × Log)) → keys ys ≡ keys xs → (l : Path × Log) → slice_get xs i ≡ Some l → (k : Path × Log) × (slice_get ys i ≡ Some k)
        got i [] ys keys l e = absurd cc
        got i (x ∷ xs) [] keys l e = absurd cc
        got zero (x ∷ xs) (y ∷ ys) keys l e = (y, refl)
        got (suc i) (x ∷ xs) (y ∷ ys) keys l e = let rest : map (λ z. z.0) ys ≡ map (λ z. z.0) xs = cc in got i xs ys rest l e

        there : (i : ℕ) (l : Path × Log) → slice_get ms i ≡ Some l → ((x : Path × Log) → slice_get ls i ≡ Some x → at p ls ≡ Some x.1) → ⊥
        there i l here stands =
            let k = got i ms ls (sym same) l here in
            no_log {x = k.0.1} (sym e ∙ stands k.0 k.1)
          where
            no_log : {x : Log} → None ≡ Some x → ⊥
            no_log e = absurd cc

-- an object shows another slot than one with other own slots and statuses would
abbrev slot_in : Context → Head → Slot
slot_in c h = (head_in c h).slot

abbrev status_in : Context → Head → Option Status
status_in c h = (head_in c h).facets.status

pub other_there : (c : Context) (k : Head) (slot : Slot) → other_slot_in (Some c) (Some k) slot ≡ not (same_slot (slot_in c (set_to slot k)) (slot_in c k))
other_there c k slot =
    ap not (and_true (same_slot (slot_in c (set_to slot k)) (slot_in c k)) (same_option same_status (status_in c k) (status_in c k)) ((tells_option same_status tells_status).itself (status_in c k)))
  where
    and_true : (a b : Bool) → b ≡ true → (a && b) ≡ a
    and_true true true e = refl
    and_true true false e = absurd (true≢false (sym e))
    and_true false b e = refl

-- the status of a node is that of its rule, if it has one
abbrev pub other_by : Plan → List Change → State → Option ℕ → Bool
other_by plan cs s None = false
other_by plan cs s (Some rule) =
    not
    (same_status
    (unwrap_or (first_noted (status_noted rule) cs) (status_of (numbered_from 0 plan.rules) s.alarms rule))
    (status_of (numbered_from 0 plan.rules) s.alarms rule))

abbrev pub other_slot_by : Contracts → State → ℕ → Option Slot → Bool
other_slot_by library s n None = false
other_slot_by library s n (Some slot) = other_slot_in (standing_at library n s.tree) (head_at n s.tree) slot

values_by : (plan : Plan) (c : Context) (h k : Head) (s t : State) (p : Path) (r : Option ℕ) → node_path h ≡ Some p → node_path k ≡ Some p → rule_of plan p ≡ r
    → same_values (head_in c (with_status plan s h)) (head_in c (with_status plan t k)) ≡ same_values (head_in c (with_status_by plan s h r)) (head_in c (with_status_by plan t k r))
values_by plan c h k s t p r a b e =
    ap₂ (λ (x y : Head). same_values (head_in c x) (head_in c y))
    (ap (with_status_at plan s h) a ∙ ap (with_status_by plan s h) e)
    (ap (with_status_at plan t k) b ∙ ap (with_status_by plan t k) e)

-- one of four parts is otherwise
abbrev pub any_of : Bool → Bool → Bool → Bool → Bool
any_of a b c d = (a || b) || (c || d)

none_of : (a b c d : Bool) → not ((not a && not b) && (not c && not d)) ≡ any_of a b c d
none_of true b c d = refl
none_of false true c d = refl
none_of false false true d = refl
none_of false false false true = refl
none_of false false false false = refl

-- which parts an own node shows otherwise: its slot, its status, its history, and the count of alarms
abbrev pub slot_differs : List Change → State → ℕ → Bool
slot_differs cs now n = other_slot_by (rewound cs now).library now n (first_noted (slot_noted n) cs)

abbrev pub log_differs : List Change → State → Path → Bool
log_differs cs now p = not (same_log (at p (rewound cs now).logs) (at p (rolled_logs now.logs)))

abbrev pub count_differs : Plan → List Change → State → Path → Bool
count_differs plan cs now p = is_path p plan.subject && not (nat_eq (length (rewound cs now).alarms) (length now.alarms))

abbrev pub ended : List Change → State → State
ended cs now = with_library (rewound cs now).library (roll now)

pub own_differs : (plan : Plan) (cs : List Change) (now : State) → CanRewind cs now → ChangesTell plan cs now → IsSoundFor plan (rewound cs now)
    → (p : Path) (n : ℕ) → place_of p (paths now.tree) ≡ Some n
    → differs plan (rewound cs now) (ended cs now) p ≡ any_of (slot_differs cs now n) (other_by plan cs now (rule_of plan p)) (log_differs cs now p) (count_differs plan cs now p)
own_differs plan cs now can told sound p n here =
    (own_trees_tell_changes plan before after values).differs_by p n h k c
    ((own_trees_tell plan before).own p n sound.paths_differ here_before) here_before was head.1 stands
    ∙ ap (λ (b : Bool). not (b && same_derived plan before after p)) values_are
    ∙ ap (λ (b : Bool). not ((not (slot_differs cs now n) && not (other_by plan cs now (rule_of plan p))) && b)) derived_are
    ∙ none_of (slot_differs cs now n) (other_by plan cs now (rule_of plan p)) (log_differs cs now p) (count_differs plan cs now p)
  where
    before : State
    before = rewound cs now

    after : State
    after = ended cs now

    values : DifferInValues before after
    values = notes_are_values plan cs now can told

    here_before : place_of p (paths before.tree) ≡ Some n
    here_before = ap (place_of p) (paths_before cs now can) ∙ here

    head : (k : Head) × (head_at n now.tree ≡ Some k)
    head = head_there now.tree n (place_within now.tree p n here)

    k : Head
    k = head.0

    o : Option Slot
    o = first_noted (slot_noted n) cs

    h : Head
    h = noted_head o k

    was : head_at n before.tree ≡ Some h
    was = head_before n k cs now can head.1

    c : Context
    c = under (handed_at before.library n now.tree) k.name

    stands_now : standing_at before.library n now.tree ≡ Some c
    stands_now = ap (option_map (λ (x : Head). under (handed_at before.library n now.tree) x.name)) head.1

    stands : standing_at before.library n before.tree ≡ Some c
    stands = sym ((own_trees_tell_changes plan before after values).stands n) ∙ stands_now

    path_there : (x : Head) (ps : List (Option Path)) → slice_get ps n ≡ Some (node_path x) → place_of p ps ≡ Some n → node_path x ≡ Some p
    path_there x ps there is = let same : Some (node_path x) ≡ Some (Some p) = sym there ∙ placed p ps n is in cc

    path_k : node_path k ≡ Some p
    path_k = path_there k (paths now.tree) (got_map node_path (heads_of now.tree) n k head.1) here

    path_h : node_path h ≡ Some p
    path_h = path_there h (paths before.tree) (got_map node_path (heads_of before.tree) n h was) here_before

    slots_are : (o : Option Slot) → same_slot (slot_in c (noted_head o k)) (slot_in c k) ≡ not (other_slot_by before.library now n o)
    slots_are None = tells_slot.itself (slot_in c k)
    slots_are (Some x) =
        sym (not_not (same_slot (slot_in c (set_to x k)) (slot_in c k)))
        ∙ ap not (sym (ap₂ (λ (a : Option Context) (b : Option Head). other_slot_in a b x) stands_now head.1 ∙ other_there c k x))

    status_stays : (o : Option Slot) → same_option same_status (status_in c (noted_head o k)) (status_in c k) ≡ true
    status_stays None = (tells_option same_status tells_status).itself (status_in c k)
    status_stays (Some x) = (tells_option same_status tells_status).itself (status_in c k)

    by_rule : (r : Option ℕ) → same_values (head_in c (with_status_by plan before h r)) (head_in c (with_status_by plan after k r)) ≡ (not (slot_differs cs now n) && not (other_by plan cs now r))
    by_rule None = ap₂ (λ (a b : Bool). a && b) (slots_are o) (status_stays o)
    by_rule (Some rule) =
        ap₂ (λ (a b : Bool). a && b) (slots_are o)
        (ap (λ (x : Status). same_status x (status_of (numbered_from 0 plan.rules) now.alarms rule)) (status_before plan rule cs now told)
        ∙ sym
        (not_not
        (same_status
        (unwrap_or (first_noted (status_noted rule) cs) (status_of (numbered_from 0 plan.rules) now.alarms rule))
        (status_of (numbered_from 0 plan.rules) now.alarms rule))))

    values_are : same_values (head_in c (with_status plan before h)) (head_in c (with_status plan after k)) ≡ (not (slot_differs cs now n) && not (other_by plan cs now (rule_of plan p)))
    values_are = values_by plan c h k before after p (rule_of plan p) path_h path_k refl ∙ by_rule (rule_of plan p)

    count_is : (b : Bool) → (not b || same_slot (number_slot (length before.alarms)) (number_slot (length now.alarms))) ≡ not (b && not (nat_eq (length before.alarms) (length now.alarms)))
    count_is true = counts_same (length before.alarms) (length now.alarms) ∙ sym (not_not (nat_eq (length before.alarms) (length now.alarms)))
    count_is false = refl

    derived_are : same_derived plan before after p ≡ (not (log_differs cs now p) && not (count_differs plan cs now p))
    derived_are =
        ap₂ (λ (a b : Bool). a && b) (sym (not_not (same_log (at p before.logs) (at p (rolled_logs now.logs))))) (count_is (is_path p plan.subject))

-- what a history shows otherwise is told by the first note of its place
abbrev pub log_other : ℕ → Log → Bool
log_other len l = not (same_log (Some (cut len l)) (Some (rolled l)))

pub log_sound : (plan : Plan) (cs : List Change) (now : State) → ChangesTell plan cs now → Apart (keys now.logs)
    → (i : ℕ) (l : Path × Log) (len : ℕ) → slice_get now.logs i ≡ Some l → first_noted (len_noted i) cs ≡ Some len
    → log_differs cs now l.0 ≡ log_other len l.1
log_sound plan cs now told apart i l len here noted =
    ap₂ (λ (a b : Option Log). not (same_log a b))
    (at_apart (rewound cs now).logs i (l.0, cut len l.1) (subst (λ (ps : List Path). Apart ps) (sym (keys_before cs now)) apart) was)
    (at-rolled l.0 now.logs ∙ ap (option_map rolled) (at_apart now.logs i l apart here))
  where
    was : slice_get (rewound cs now).logs i ≡ Some (l.0, cut len l.1)
    was = (log_before plan i l cs now told here).0 ∙ ap (λ (o : Option ℕ). let x : Path × Log = (l.0, noted_log o l.1) in Some x) noted

-- and there is such a note
pub log_noted : (plan : Plan) (cs : List Change) (now : State) → ChangesTell plan cs now → roll (rewound cs now) ≡ rewound cs now
    → (p : Path) → log_differs cs now p ≡ true
    → (i : ℕ) × (l : Path × Log) × (len : ℕ) × (slice_get now.logs i ≡ Some l) × (l.0 ≡ p) × (first_noted (len_noted i) cs ≡ Some len) × (log_other len l.1 ≡ true)
log_noted plan cs now told rolled_before p differs = go (at p now.logs) refl
  where
    before : State
    before = rewound cs now

    before_rolled : at p before.logs ≡ option_map rolled (at p before.logs)
    before_rolled = ap (λ (x : State). at p x.logs) (sym rolled_before) ∙ at-rolled p before.logs

    end_at : (o : Option Log) → at p now.logs ≡ o → at p (rolled_logs now.logs) ≡ option_map rolled o
    end_at o e = at-rolled p now.logs ∙ ap (option_map rolled) e

    Noted : Type 0
    Noted = (i : ℕ) × (l : Path × Log) × (len : ℕ) × (slice_get now.logs i ≡ Some l) × (l.0 ≡ p) × (first_noted (len_noted i) cs ≡ Some len) × (log_other len l.1 ≡ true)

    same_log_none : not (same_log None (at p (rolled_logs now.logs))) ≡ false
    same_log_none = refl

    of_place : (i : ℕ) (l : Path × Log) (m : Log) → slice_get now.logs i ≡ Some l → l.0 ≡ p → l.1 ≡ m → at p now.logs ≡ Some m
        → ((x : Path × Log) → slice_get before.logs i ≡ Some x → at p before.logs ≡ Some x.1)
        → (o : Option ℕ) → first_noted (len_noted i) cs ≡ o → Noted
    of_place i l m here path log at_now was None noted =
        absurd (true≢false (sym differs ∙ ap₂ (λ (a b : Option Log). not (same_log a b)) was_same (end_at (Some m) at_now ∙ rolled_same) ∙ ap not (log_itself m)))
      where
        was_there : at p before.logs ≡ Some (noted_log (first_noted (len_noted i) cs) l.1)
        was_there = was (l.0, noted_log (first_noted (len_noted i) cs) l.1) (log_before plan i l cs now told here).0

        was_same : at p before.logs ≡ Some m
        was_same = was_there ∙ ap (λ (x : Option ℕ). Some (noted_log x l.1)) noted ∙ ap (λ (x : Log). Some x) log

        rolled_same : Some (rolled m) ≡ Some m
        rolled_same = sym (ap (option_map rolled) was_same) ∙ sym before_rolled ∙ was_same
    of_place i l m here path log at_now was (Some len) noted = (
      i,
      l,
      len,
      here,
      path,
      noted,
      sym (ap₂ (λ (a b : Option Log). not (same_log a b)) was_there (end_at (Some m) at_now ∙ ap (λ (x : Log). Some (rolled x)) (sym log))) ∙ differs,
    )
      where
        was_there : at p before.logs ≡ Some (cut len l.1)
        was_there =
            was (l.0, noted_log (first_noted (len_noted i) cs) l.1) (log_before plan i l cs now told here).0
            ∙ ap (λ (x : Option ℕ). Some (noted_log x l.1)) noted

    go : (o : Option Log) → at p now.logs ≡ o → Noted
    go None e =
        absurd
        (true≢false
        (sym differs ∙ ap (λ (a : Option Log). not (same_log a (at p (rolled_logs now.logs)))) (at_none p now.logs before.logs (keys_before cs now) e)))
    go (Some m) e =
        let found = at_found p now.logs before.logs m (keys_before cs now) e in
        of_place found.0 found.1 m found.2 found.3 found.4 e found.5 (first_noted (len_noted found.0) cs) refl
