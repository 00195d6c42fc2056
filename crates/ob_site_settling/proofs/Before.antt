-- What was before a step, told by its notes.
use Rattle.std.proofs.Common.{ℕ, ◌≡◌, zero, suc, ◌+◌, ◌-◌, ◌<◌, ◌≤◌, Bool, true, false, List, [], ◌∷◌, set, length, take, drop, Option, Some, None, refl, sym, ap, ◌∙◌, subst, true≢false, arith, length-take, IsTrue}
use Rattle.std.specs.Prelude.{nat_eq, slice_get, unwrap_or}
use Rattle.std.specs.List.{AllByRecursion}
use Rattle.std.proofs.lemmas.Bool.{eq-eqb, eqb-true}
use Rattle.ob_object.specs.declared.head.Head.{Head}
use Rattle.ob_object.specs.declared.head.Slot.{Slot}
use Rattle.ob_object.specs.declared.status.Status.{Status}
use Rattle.ob_object.specs.Fits.{fits_slot}
use Rattle.ob_object.specs.Object.{Object, parts}
use Rattle.ob_contracts.specs.Inherit.{or_else, only_if}
use Rattle.ob_history.specs.declared.records.Record.{Record}
use Rattle.ob_alarms.specs.Lists.{changed_at}
use Rattle.ob_alarms.specs.States.{status_of}
use Rattle.ob_alarms.specs.Changes.{before, before_what}
use Rattle.ob_alarms.specs.declared.alarm.Alarm.{Alarm}
use Rattle.ob_alarms.specs.declared.alarm.Event.{Event}
use Rattle.ob_alarms.specs.declared.alarm.What.{What}
use Rattle.ob_alarms.specs.declared.alarm.What.TheVariants as what
use Rattle.ob_tree.specs.Laid.{heads_of, head_at, changed}
use Rattle.ob_tree.proofs.Changing.{heads-changed, parts-changed}
use Rattle.ob_site_rules.specs.Build.{Path}
use Rattle.ob_site_rules.specs.declared.plan.Plan.{Plan}
use Rattle.ob_site_rules.specs.State.{Log, State, numbered_from}
use Rattle.ob_site_state.specs.declared.change.Change.{Change}
use Rattle.ob_site_state.specs.declared.change.Change.TheVariants as change
use Rattle.ob_site_state.specs.Changes.{alarms_before, events_before, cut, with_log, undone, rewound, CanRewind, ChangesTell}
use Rattle.ob_site_state.proofs.Rewinding.{set_to}
use Rattle.ob_site_state.proofs.Noting.{head_there, head_set}
use Rattle.ob_site_state.proofs.LogPlaces.{length-with_log}
use Rattle.ob_site_settling.specs.Telling.{first_noted, slot_noted, len_noted, status_noted, library_noted, count_before_what, count_before, events_noted, IsComparable}

-- numbers that are told apart
apart : (k n : ℕ) → nat_eq k n ≡ false → k ≡ n → ⊥
apart k n e same = true≢false (sym (eq-eqb k n same) ∙ e)

-- slots
abbrev pub noted_head : Option Slot → Head → Head
noted_head None h = h
noted_head (Some slot) h = set_to slot h

set_noted : (o : Option Slot) (h : Head) (slot : Slot) → set_to slot (noted_head o h) ≡ set_to slot h
set_noted None h slot = refl
set_noted (Some x) h slot = refl

noted_kind : (o : Option Slot) (h : Head) → (noted_head o h).kind ≡ h.kind
noted_kind None h = refl
noted_kind (Some x) h = refl

set_other : {A : Type 0} (xs : List A) (k n : ℕ) (y : A) → (k ≡ n → ⊥) → slice_get (set xs k y) n ≡ slice_get xs n
set_other [] k n y off = refl
set_other (x ∷ xs) zero zero y off = absurd (off refl)
set_other (x ∷ xs) zero (suc n) y off = refl
set_other (x ∷ xs) (suc k) zero y off = refl
set_other (x ∷ xs) (suc k) (suc n) y off = set_other xs k n y (λ e. off (ap (λ (m : ℕ). suc m) e))

head_other : (o : Object) (k n : ℕ) (slot : Slot) → k < parts o → (k ≡ n → ⊥) → head_at n (changed (set_to slot) k o) ≡ head_at n o
head_other o k n slot h off =
    let there = head_there o k h in
    ap (λ (hs : List Head). slice_get hs n) (heads-changed (set_to slot) k o there.0 there.1) ∙ set_other (heads_of o) k n (set_to slot there.0) off

pub head_before : (n : ℕ) (h : Head) (cs : List Change) (s : State) → CanRewind cs s → head_at n s.tree ≡ Some h
    → head_at n (rewound cs s).tree ≡ Some (noted_head (first_noted (slot_noted n) cs) h)
head_before n h [] s can e = e
head_before n h (change.Slot id slot ∷ cs) s can e = go (nat_eq id.number n) refl (head_before n h cs s can.1 e)
  where
    go : (b : Bool) → nat_eq id.number n ≡ b → head_at n (rewound cs s).tree ≡ Some (noted_head (first_noted (slot_noted n) cs) h)
        → head_at n (changed (set_to slot) id.number (rewound cs s).tree) ≡ Some (noted_head (or_else (only_if b (Some slot)) (first_noted (slot_noted n) cs)) h)
    go true is there =
        ap (λ (k : ℕ). head_at n (changed (set_to slot) k (rewound cs s).tree)) (eqb-true id.number n is)
        ∙ head_set (rewound cs s).tree n (noted_head (first_noted (slot_noted n) cs) h) slot there
        ∙ ap (λ (x : Head). Some x) (set_noted (first_noted (slot_noted n) cs) h slot)
    go false is there = head_other (rewound cs s).tree id.number n slot can.0.0 (apart id.number n is) ∙ there
head_before n h (change.Records place len ∷ cs) s can e = head_before n h cs s can.1 e
head_before n h (change.Event rule status ∷ cs) s can e = head_before n h cs s can.1 e
head_before n h (change.Contracts library ∷ cs) s can e = head_before n h cs s can.1 e

pub parts_before : (cs : List Change) (s : State) → parts (rewound cs s).tree ≡ parts s.tree
parts_before [] s = refl
parts_before (change.Slot id slot ∷ cs) s = parts-changed (set_to slot) id.number (rewound cs s).tree ∙ parts_before cs s
parts_before (change.Records place len ∷ cs) s = parts_before cs s
parts_before (change.Event rule status ∷ cs) s = parts_before cs s
parts_before (change.Contracts library ∷ cs) s = parts_before cs s

-- statuses
pub status_before : (plan : Plan) (j : ℕ) (cs : List Change) (s : State) → ChangesTell plan cs s
    → status_of (numbered_from 0 plan.rules) (rewound cs s).alarms j ≡ unwrap_or (first_noted (status_noted j) cs) (status_of (numbered_from 0 plan.rules) s.alarms j)
status_before plan j [] s told = refl
status_before plan j (change.Slot id slot ∷ cs) s told = status_before plan j cs s told.1
status_before plan j (change.Records place len ∷ cs) s told = status_before plan j cs s told.1
status_before plan j (change.Event rule status ∷ cs) s told = go (nat_eq rule j) refl (status_before plan j cs s told.1)
  where
    now : Status
    now = status_of (numbered_from 0 plan.rules) s.alarms j

    go : (b : Bool) → nat_eq rule j ≡ b
        → status_of (numbered_from 0 plan.rules) (rewound cs s).alarms j ≡ unwrap_or (first_noted (status_noted j) cs) now
        → status_of (numbered_from 0 plan.rules) (undone (change.Event rule status) (rewound cs s)).alarms j ≡ unwrap_or (or_else (only_if b (Some status)) (first_noted (status_noted j) cs)) now
    go true is there = ap (λ (k : ℕ). status_of (numbered_from 0 plan.rules) (undone (change.Event rule status) (rewound cs s)).alarms k) (sym (eqb-true rule j is)) ∙ sym told.0.0
    go false is there = told.0.1 j (λ same. apart rule j is (sym same)) ∙ there
status_before plan j (change.Contracts library ∷ cs) s told = status_before plan j cs s told.1

-- the library
pub library_before : (cs : List Change) (s : State) → (rewound cs s).library ≡ unwrap_or (first_noted library_noted cs) s.library
library_before [] s = refl
library_before (change.Slot id slot ∷ cs) s = library_before cs s
library_before (change.Records place len ∷ cs) s = library_before cs s
library_before (change.Event rule status ∷ cs) s = library_before cs s
library_before (change.Contracts library ∷ cs) s = refl

-- logs
abbrev pub noted_log : Option ℕ → Log → Log
noted_log None l = l
noted_log (Some len) l = cut len l

abbrev pub IsWithin : Option ℕ → Log → Type 0
IsWithin None l = Unit {0}
IsWithin (Some len) l = len ≤ length l.kept

got_changed : {A : Type 0} (f : A → A) (n : ℕ) (xs : List A) (x : A) → slice_get xs n ≡ Some x → slice_get (changed_at n f xs) n ≡ Some (f x)
got_changed f n [] x e = absurd cc
got_changed f zero (y ∷ xs) x e = let same : y ≡ x = cc in ap (λ a. Some (f a)) same
got_changed f (suc n) (y ∷ xs) x e = got_changed f n xs x e

got_other : {A : Type 0} (f : A → A) (k n : ℕ) (xs : List A) → (k ≡ n → ⊥) → slice_get (changed_at k f xs) n ≡ slice_get xs n
got_other f k n [] off = refl
got_other f zero zero (x ∷ xs) off = absurd (off refl)
got_other f zero (suc n) (x ∷ xs) off = refl
got_other f (suc k) zero (x ∷ xs) off = refl
got_other f (suc k) (suc n) (x ∷ xs) off = got_other f k n xs (λ e. off (ap (λ (m : ℕ). suc m) e))

take_twice : {A : Type 0} (n m : ℕ) (xs : List A) → n ≤ m → take n (take m xs) ≡ take n xs
take_twice zero m xs h = refl
take_twice (suc n) zero xs h = absurd (omega arith)
take_twice (suc n) (suc m) [] h = refl
take_twice (suc n) (suc m) (x ∷ xs) h = ap (λ l. x ∷ l) (take_twice n m xs (omega arith))

noted_shorter : (o : Option ℕ) (l : Log) → length (noted_log o l).kept ≤ length l.kept
noted_shorter None l = omega arith
noted_shorter (Some len) l = omega (arith, length-take len l.kept)

cut_noted : (o : Option ℕ) (l : Log) (len : ℕ) → length (noted_log o l).kept ≡ len + 1 → cut len (noted_log o l) ≡ cut len l
cut_noted None l len e = refl
cut_noted (Some m) l len e =
    ap (λ (k : List Record). let x : Log = record l { kept = k } in x) (take_twice len m l.kept (omega (arith, e, length-take m l.kept)))

pub log_before : (plan : Plan) (place : ℕ) (l : Path × Log) (cs : List Change) (s : State) → ChangesTell plan cs s → slice_get s.logs place ≡ Some l
    → (slice_get (rewound cs s).logs place ≡ Some (l.0, noted_log (first_noted (len_noted place) cs) l.1)) × IsWithin (first_noted (len_noted place) cs) l.1
log_before plan place l [] s told e = (e, tt)
log_before plan place l (change.Slot id slot ∷ cs) s told e = log_before plan place l cs s told.1 e
log_before plan place l (change.Records k len ∷ cs) s told e = go (nat_eq k place) refl (log_before plan place l cs s told.1 e)
  where
    o : Option ℕ
    o = first_noted (len_noted place) cs

    go : (b : Bool) → nat_eq k place ≡ b → (slice_get (rewound cs s).logs place ≡ Some (l.0, noted_log o l.1)) × IsWithin o l.1
        → (slice_get (with_log (cut len) k (rewound cs s).logs) place ≡ Some (l.0, noted_log (or_else (only_if b (Some len)) o) l.1)) × IsWithin (or_else (only_if b (Some len)) o) l.1
    go true is there =
        let same : k ≡ place = eqb-true k place is in
        let long : length (noted_log o l.1).kept ≡ len + 1 = told.0 (l.0, noted_log o l.1) (ap (slice_get (rewound cs s).logs) same ∙ there.0) in (
          ap (λ (n : ℕ). slice_get (with_log (cut len) n (rewound cs s).logs) place) same
              ∙ got_changed (λ x. (x.0, cut len x.1)) place (rewound cs s).logs (l.0, noted_log o l.1) there.0
              ∙ ap (λ (m : Log). let x : Path × Log = (l.0, m) in Some x) (cut_noted o l.1 len long),
          omega (arith, long, noted_shorter o l.1),
        )
    go false is there = (got_other (λ x. (x.0, cut len x.1)) k place (rewound cs s).logs (apart k place is) ∙ there.0, there.1)
log_before plan place l (change.Event rule status ∷ cs) s told e = log_before plan place l cs s told.1 e
log_before plan place l (change.Contracts library ∷ cs) s told e = log_before plan place l cs s told.1 e

logs_before : (cs : List Change) (s : State) → length (rewound cs s).logs ≡ length s.logs
logs_before [] s = refl
logs_before (change.Slot id slot ∷ cs) s = logs_before cs s
logs_before (change.Records place len ∷ cs) s = length-with_log (cut len) place (rewound cs s).logs ∙ logs_before cs s
logs_before (change.Event rule status ∷ cs) s = logs_before cs s
logs_before (change.Contracts library ∷ cs) s = logs_before cs s

-- each note can be compared with what is there
pub comparable : (plan : Plan) (cs : List Change) (s : State) → CanRewind cs s → ChangesTell plan cs s → AllByRecursion (IsComparable s) cs
comparable plan [] s can told = tt
comparable plan (change.Slot id slot ∷ cs) s can told = (
  (
    subst (λ (m : ℕ). id.number < m) (parts_before cs s) can.0.0,
    λ h e. subst
        (λ (k : _). IsTrue (fits_slot k slot))
        (noted_kind (first_noted (slot_noted id.number) cs) h)
        (can.0.1 (noted_head (first_noted (slot_noted id.number) cs) h) (head_before id.number h cs s can.1 e)),
  ),
  comparable plan cs s can.1 told.1,
)
comparable plan (change.Records place len ∷ cs) s can told = (
  (
    subst (λ (m : ℕ). place < m) (logs_before cs s) can.0,
    λ l e.
        let o : Option ℕ = first_noted (len_noted place) cs in
        let long : length (noted_log o l.1).kept ≡ len + 1 = told.0 (l.0, noted_log o l.1) (log_before plan place l cs s told.1 e).0 in
        omega (arith, long, noted_shorter o l.1),
  ),
  comparable plan cs s can.1 told.1,
)
comparable plan (change.Event rule status ∷ cs) s can told = (tt, comparable plan cs s can.1 told.1)
comparable plan (change.Contracts library ∷ cs) s can told = (tt, comparable plan cs s can.1 told.1)

-- alarms
but_last : (n : ℕ) (xs : List Event) (e : Event) → slice_get xs n ≡ Some e → events_before (take (suc n) xs) ≡ take n xs
but_last n [] e here = absurd cc
but_last zero (x ∷ xs) e here = refl
but_last (suc n) (x ∷ []) e here = absurd cc
but_last (suc n) (x ∷ y ∷ xs) e here = ap (λ (l : List Event). x ∷ l) (but_last n (y ∷ xs) e here)

last_undone : (n : ℕ) (xs : List Event) (e : Event) (alarms : List Alarm) → slice_get xs n ≡ Some e → alarms_before (take (suc n) xs) alarms ≡ before e alarms
last_undone n [] e alarms here = absurd cc
last_undone zero (x ∷ xs) e alarms here = let same : x ≡ e = cc in ap (λ (f : Event). before f alarms) same
last_undone (suc n) (x ∷ []) e alarms here = absurd cc
last_undone (suc n) (x ∷ y ∷ xs) e alarms here = last_undone n (y ∷ xs) e alarms here

drop_there : {A : Type 0} (n : ℕ) (xs : List A) (x : A) → slice_get xs n ≡ Some x → drop n xs ≡ x ∷ drop (suc n) xs
drop_there n [] x e = absurd cc
drop_there zero (y ∷ xs) x e = let same : y ≡ x = cc in ap (λ a. a ∷ xs) same
drop_there (suc n) (y ∷ xs) x e = drop_there n xs x e

length-changed : {A : Type 0} (n : ℕ) (f : A → A) (xs : List A) → length (changed_at n f xs) ≡ length xs
length-changed n f [] = refl
length-changed zero f (x ∷ xs) = refl
length-changed (suc n) f (x ∷ xs) = ap (λ m. suc m) (length-changed n f xs)

count_one : (w : What) (number : ℕ) (alarms : List Alarm) → length (before_what w (number - 1) alarms) ≡ count_before_what w number (length alarms)
count_one what.Raised number alarms = omega (arith, length-take (number - 1) alarms)
count_one what.Acked number alarms = length-changed (number - 1) (λ a. record a { ack = None }) alarms
count_one what.Normal number alarms = length-changed (number - 1) (λ a. record a { normal = None }) alarms

got_event : (n : ℕ) (xs : List Event) → n < length xs → (e : Event) × (slice_get xs n ≡ Some e)
got_event n [] h = absurd (omega arith)
got_event zero (x ∷ xs) h = (x, refl)
got_event (suc n) (x ∷ xs) h = got_event n xs (omega arith)

-- of the events those are left that no note is of, and as many alarms as before the others
pub events_left : (cs : List Change) (s : State) → CanRewind cs s
    → (m : ℕ) × (m + events_noted cs ≡ length s.events) × ((rewound cs s).events ≡ take m s.events)
    × (length (rewound cs s).alarms ≡ count_before (drop m s.events) (length s.alarms))
events_left [] s can =
    let all : length s.events + 0 ≡ length s.events = omega arith in
    (length s.events, all, sym (take_whole s.events), ap (λ (es : List Event). count_before es (length s.alarms)) (sym (drop_whole s.events)))
  where
    take_whole : (es : List Event) → take (length es) es ≡ es
    take_whole [] = refl
    take_whole (e ∷ es) = ap (λ (l : List Event). e ∷ l) (take_whole es)

    drop_whole : (es : List Event) → drop (length es) es ≡ []
    drop_whole [] = refl
    drop_whole (e ∷ es) = drop_whole es
events_left (change.Slot id slot ∷ cs) s can = events_left cs s can.1
events_left (change.Records place len ∷ cs) s can = events_left cs s can.1
events_left (change.Contracts library ∷ cs) s can = events_left cs s can.1
events_left (change.Event rule status ∷ cs) s can = go (events_left cs s can.1)
  where
    u : State
    u = rewound cs s

    k : ℕ
    k = events_noted cs

    go : (m : ℕ) × (m + k ≡ length s.events) × (u.events ≡ take m s.events) × (length u.alarms ≡ count_before (drop m s.events) (length s.alarms))
        → (m : ℕ) × (m + suc k ≡ length s.events) × (events_before u.events ≡ take m s.events)
        × (length (alarms_before u.events u.alarms) ≡ count_before (drop m s.events) (length s.alarms))
    go (zero, all, events, alarms) = absurd (let none : length u.events ≡ 0 = ap length events in omega (arith, none, can.0))
    go (suc m, all, events, alarms) =
        let there = got_event m s.events (omega (arith, all)) in
        let e : Event = there.0 in (
          m,
          omega (arith, all),
          ap events_before events ∙ but_last m s.events e there.1,
          ap (λ (es : List Event). length (alarms_before es u.alarms)) events
              ∙ ap length (last_undone m s.events e u.alarms there.1)
              ∙ count_one e.what e.number u.alarms
              ∙ ap (count_before_what e.what e.number) alarms
              ∙ ap (λ (es : List Event). count_before es (length s.alarms)) (sym (drop_there m s.events e there.1)),
        )

-- an event takes back no more than those after it leave, in whatever order
what_swaps : (v w : What) (m n count : ℕ) → count_before_what v m (count_before_what w n count) ≡ count_before_what w n (count_before_what v m count)
what_swaps what.Raised what.Raised m n count = omega arith
what_swaps what.Raised what.Acked m n count = refl
what_swaps what.Raised what.Normal m n count = refl
what_swaps what.Acked w m n count = refl
what_swaps what.Normal w m n count = refl

pub count_swaps : (w : What) (n : ℕ) (es : List Event) (count : ℕ) → count_before es (count_before_what w n count) ≡ count_before_what w n (count_before es count)
count_swaps w n [] count = refl
count_swaps w n (e ∷ es) count = ap (count_before_what e.what e.number) (count_swaps w n es count) ∙ what_swaps e.what w e.number n (count_before es count)
