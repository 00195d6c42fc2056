-- The end of a step: only histories with a new record have to drop some.
use Rattle.std.proofs.Common.{◌≡◌, ℕ, zero, suc, ◌+◌, ◌-◌, ◌<◌, Bool, true, false, ◌||◌, List, [], ◌∷◌, ◌++◌, length, take, drop, get_or, Option, Some, None, refl, sym, ap, ◌∙◌, subst, arith, nat_eq}
use Rattle.std.specs.Prelude.{slice_get}
use Rattle.std.specs.List.{list_any}
use Rattle.std.proofs.lemmas.Bool.Decides.{nat_tests}
use Rattle.ob_history.specs.declared.records.Record.{Record}
use Rattle.ob_object.specs.WellFormed.{IsWellFormed}
use Rattle.ob_tree.specs.Paths.{first_twice}
use Rattle.ob_tree.specs.Laid.{paths}
use Rattle.ob_alarms.specs.Changes.{State as Board}
use Rattle.ob_site_rules.specs.Build.{Path}
use Rattle.ob_site_rules.specs.declared.plan.Plan.{Plan}
use Rattle.ob_site_rules.specs.State.{Log, State, history_of, rolled, rolled_logs, roll}
use Rattle.ob_history.specs.Logs.{History, settled, settled as settled_history}
use Rattle.circular_buffer.specs.Buffer.{keep_last}
use Rattle.ob_site_laws.proofs.Rolling.{rolls_once}
use Rattle.ob_site_state.specs.declared.change.Change.{Change}
use Rattle.ob_site_state.specs.declared.change.Change.TheVariants as change
use Rattle.ob_site_state.specs.Changes.{cut, with_log, undone, rewound, settled_by, settled_all, CanUndo, CanRewind, IsPlaced}
use Rattle.ob_site_state.proofs.LogPlaces.{length-with_log}
use Rattle.std.proofs.lemmas.List.{take_more}
use Rattle.ob_values.proofs.Bools.{neither}
use Rattle.ob_site_state.specs.Kept.{Kept, keys, log_of, LogsAreBy, AreBy, IsSoundFor, IsConsistentState}
use Rattle.ob_site_state.proofs.Sound.{rolls_sound}
use Rattle.ob_site_state.proofs.Noting.{same_kept}

abbrev first_log : List (Path × Log) → Log → Log
first_log [] d = d
first_log (l ∷ ls) d = l.1

-- a log that has rolled rolls no further
pub rolled_once : (s : State) (l : Path × Log) → rolled (rolled l.1) ≡ rolled l.1
rolled_once s l = ap (λ (u : State). first_log u.logs l.1) (rolls_once (record s { logs = l ∷ [] }))

-- a change gave the history of a place a record
abbrev pub records_at : ℕ → Change → Bool
records_at i (change.Records place len) = nat_eq i place
records_at i _ = false

abbrev pub is_recorded : ℕ → List Change → Bool
is_recorded i cs = list_any (records_at i) cs

-- numbers told by a test
pub equal_of : (a b : ℕ) → nat_eq a b ≡ true → a ≡ b
equal_of a b e = grind (arith, nat_tests)

pub differ_of : (a b : ℕ) → nat_eq a b ≡ false → a ≡ b → ⊥
differ_of a b e same = grind (arith, nat_tests)

-- the history of another place has its log
pub other_log : (f : Log → Log) (place i : ℕ) (ls : List (Path × Log)) → (i ≡ place → ⊥) → slice_get (with_log f place ls) i ≡ slice_get ls i
other_log f place i [] h = refl
other_log f zero zero (l ∷ ls) h = absurd (h refl)
other_log f zero (suc i) (l ∷ ls) h = refl
other_log f (suc place) zero (l ∷ ls) h = refl
other_log f (suc place) (suc i) (l ∷ ls) h = other_log f place i ls (λ e. h (ap (λ n. suc n) e))

undone_other : (c : Change) (s : State) (i : ℕ) → records_at i c ≡ false → slice_get (undone c s).logs i ≡ slice_get s.logs i
undone_other (change.Slot node slot) s i e = refl
undone_other (change.Records place len) s i e = other_log (cut len) place i s.logs (differ_of i place e)
undone_other (change.Event rule status) s i e = refl
undone_other (change.Contracts told) s i e = refl

rewound_other : (cs : List Change) (s : State) (i : ℕ) → is_recorded i cs ≡ false → slice_get (rewound cs s).logs i ≡ slice_get s.logs i
rewound_other [] s i e = refl
rewound_other (c ∷ cs) s i e =
    let both = neither (records_at i c) (is_recorded i cs) e in
    undone_other c (rewound cs s) i both.0 ∙ rewound_other cs s i both.1

-- of logs that have rolled each one has
rolled_there : (ls : List (Path × Log)) (i : ℕ) (l : Path × Log) → rolled_logs ls ≡ ls → slice_get ls i ≡ Some l → rolled l.1 ≡ l.1
rolled_there [] i l all e = absurd cc
rolled_there (x ∷ ls) zero l all e =
    let same : x ≡ l = cc in
    subst (λ (y : Path × Log). rolled y.1 ≡ y.1) same (ap (λ (ys : List (Path × Log)). first_log ys x.1) all)
rolled_there (x ∷ ls) (suc i) l all e =
    let rest : rolled_logs ls ≡ ls = cc in rolled_there ls i l rest e

-- each log without a new record has rolled
abbrev NearlyRolled : List Change → List (Path × Log) → Type 0
NearlyRolled cs ls = (i : ℕ) (l : Path × Log) → is_recorded i cs ≡ false → slice_get ls i ≡ Some l → rolled l.1 ≡ l.1

-- and so all, where there is none
all_rolled : (ls : List (Path × Log)) → ((i : ℕ) (l : Path × Log) → slice_get ls i ≡ Some l → rolled l.1 ≡ l.1) → ls ≡ rolled_logs ls
all_rolled [] h = refl
all_rolled (l ∷ ls) h =
    ap (λ (m : Log). let x : Path × Log = (l.0, m) in x ∷ ls) (sym (h 0 l refl))
    ∙ ap (λ (ms : List (Path × Log)). let x : Path × Log = (l.0, rolled l.1) in x ∷ ms) (all_rolled ls (λ i m e. h (suc i) m e))

with_log-rolled : (s : State) (place : ℕ) (ls : List (Path × Log)) → rolled_logs (with_log rolled place ls) ≡ rolled_logs ls
with_log-rolled s place [] = refl
with_log-rolled s zero (l ∷ ls) = ap (λ (m : Log). let x : Path × Log = (l.0, m) in x ∷ rolled_logs ls) (rolled_once s l)
with_log-rolled s (suc place) (l ∷ ls) = ap (λ (ms : List (Path × Log)). let x : Path × Log = (l.0, rolled l.1) in x ∷ ms) (with_log-rolled s place ls)

-- the log at a place that was made to roll has rolled
rolled_here : (s : State) (place : ℕ) (l : Path × Log) (ls : List (Path × Log)) → slice_get (with_log rolled place ls) place ≡ Some l → rolled l.1 ≡ l.1
rolled_here s place l [] at = absurd cc
rolled_here s zero l (x ∷ ls) at =
    let y : Path × Log = (x.0, rolled x.1) in
    let same : y ≡ l = cc in
    subst (λ (z : Path × Log). rolled z.1 ≡ z.1) same (rolled_once s x)
rolled_here s (suc place) l (x ∷ ls) at = rolled_here s place l ls at

nearly_by : (s : State) (c : Change) (cs : List Change) (ls : List (Path × Log)) → NearlyRolled (c ∷ cs) ls → NearlyRolled cs (settled_by c ls)
nearly_by s (change.Slot node slot) cs ls h = h
nearly_by s (change.Records place len) cs ls h = λ i l e at. go i l (nat_eq i place) refl e at
  where
    go : (i : ℕ) (l : Path × Log) (b : Bool) → nat_eq i place ≡ b → is_recorded i cs ≡ false → slice_get (with_log rolled place ls) i ≡ Some l → rolled l.1 ≡ l.1
    go i l true is e at = rolled_here s place l ls (subst (λ (k : ℕ). slice_get (with_log rolled place ls) k ≡ Some l) (equal_of i place is) at)
    go i l false is e at = h i l (ap (λ (b : Bool). b || is_recorded i cs) is ∙ e) (sym (other_log rolled place i ls (differ_of i place is)) ∙ at)
nearly_by s (change.Event rule status) cs ls h = h
nearly_by s (change.Contracts told) cs ls h = h

same_rolled : (s : State) (c : Change) (ls : List (Path × Log)) → rolled_logs (settled_by c ls) ≡ rolled_logs ls
same_rolled s (change.Slot node slot) ls = refl
same_rolled s (change.Records place len) ls = with_log-rolled s place ls
same_rolled s (change.Event rule status) ls = refl
same_rolled s (change.Contracts told) ls = refl

settled_rolled : (s : State) (cs : List Change) (ls : List (Path × Log)) → NearlyRolled cs ls → settled_all cs ls ≡ rolled_logs ls
settled_rolled s [] ls h = all_rolled ls (λ i l e. h i l refl e)
settled_rolled s (c ∷ cs) ls h = settled_rolled s cs (settled_by c ls) (nearly_by s c cs ls h) ∙ same_rolled s c ls

-- Where all logs had rolled before the changes, those rolled now that have a new record are all that have to.
pub settles : (cs : List Change) (s : State) → roll (rewound cs s) ≡ rewound cs s → settled_all cs s.logs ≡ rolled_logs s.logs
settles cs s all =
    let logs : rolled_logs (rewound cs s).logs ≡ (rewound cs s).logs = ap (λ (x : State). x.logs) all in
    settled_rolled s cs s.logs (λ i l e at. rolled_there (rewound cs s).logs i l logs (rewound_other cs s i e ∙ at))

drop_by : (time n : ℕ) (rs : List Record) → AreBy time rs → AreBy time (drop n rs)
drop_by time zero rs by = by
drop_by time (suc n) [] by = tt
drop_by time (suc n) (r ∷ rs) by = drop_by time n rs by.1

rolled_log_by : (time : ℕ) (capacity : Option ℕ) (gone : ℕ) (rs : List Record) → AreBy time rs → AreBy time (rolled (record { capacity = capacity; gone = gone; kept = rs })).kept
rolled_log_by time None gone rs by = by
rolled_log_by time (Some c) gone rs by = drop_by time (length rs - c) rs by

rolled_by : (time : ℕ) (ls : List (Path × Log)) → LogsAreBy time ls → LogsAreBy time (rolled_logs ls)
rolled_by time [] by = tt
rolled_by time (l ∷ ls) by = (rolled_log_by time l.1.capacity l.1.gone l.1.kept by.0, rolled_by time ls by.1)

keys-rolled : (ls : List (Path × Log)) → keys (rolled_logs ls) ≡ keys ls
keys-rolled [] = refl
keys-rolled (l ∷ ls) = ap (λ (ps : List Path). l.0 ∷ ps) (keys-rolled ls)

-- What the parts of a state owe one another at the end of a step.
pub committed : (plan : Plan) (time : ℕ) (s t : State) (b c : Board) (since : ℕ) (found : List Change) → IsConsistentState plan time s b since found
    → c.root ≡ b.root → c.rules ≡ b.rules → t ≡ roll s → IsConsistentState plan time t c time []
committed plan time s t b c since found k root rules is =
    let by : LogsAreBy time t.logs = subst (λ (x : State). LogsAreBy time x.logs) (sym is) (rolled_by time s.logs k.in_time) in
    let sound : IsSoundFor plan t = subst (λ (x : State). IsSoundFor plan x) (sym is) (rolls_sound plan s k.sound) in record {
      root = root ∙ k.root;
      rules = rules ∙ k.rules;
      histories = ap (λ (x : State). keys x.logs) is ∙ keys-rolled s.logs ∙ k.histories;
      apart = k.apart;
      well_formed = subst (λ (x : State). IsWellFormed x.tree) (sym is) k.well_formed;
      differ = subst (λ (x : State). first_twice [] (paths x.tree) ≡ None) (sym is) k.differ;
      in_time = by;
      sound = sound;
      later = omega arith;
      can_rewind = tt;
      told = tt;
      in_time_before = by;
      rolled_before = ap roll is ∙ rolls_once s ∙ sym is;
      sound_before = sound;
    }

length-settled : (cs : List Change) (ls : List (Path × Log)) → length (settled_all cs ls) ≡ length ls
length-settled [] ls = refl
length-settled (c ∷ cs) ls = length-settled cs (settled_by c ls) ∙ one c ls
  where
    one : (c : Change) (ls : List (Path × Log)) → length (settled_by c ls) ≡ length ls
    one (change.Slot node slot) ls = refl
    one (change.Records place len) ls = length-with_log rolled place ls
    one (change.Event rule status) ls = refl
    one (change.Contracts told) ls = refl

length-undone : (c : Change) (s : State) → length (undone c s).logs ≡ length s.logs
length-undone (change.Slot node slot) s = refl
length-undone (change.Records place len) s = length-with_log (cut len) place s.logs
length-undone (change.Event rule status) s = refl
length-undone (change.Contracts told) s = refl

length-rewound : (cs : List Change) (s : State) → length (rewound cs s).logs ≡ length s.logs
length-rewound [] s = refl
length-rewound (c ∷ cs) s = length-undone c (rewound cs s) ∙ length-rewound cs s

placed_by : (c : Change) (s : State) → CanUndo c s → IsPlaced (length s.logs) c
placed_by (change.Slot node slot) s can = tt
placed_by (change.Records place len) s can = can
placed_by (change.Event rule status) s can = tt
placed_by (change.Contracts told) s can = tt

-- each change that can be taken back is of a history that is there
placed_at : (cs : List Change) (s : State) (i : ℕ) (x : Change) → CanRewind cs s → i < length cs → x ≡ get_or cs i x → IsPlaced (length s.logs) x
placed_at [] s i x can h is = absurd (omega arith)
placed_at (c ∷ cs) s zero x can h is =
    subst (λ (y : Change). IsPlaced (length s.logs) y) (sym is)
    (subst (λ (n : ℕ). IsPlaced n c) (length-rewound cs s) (placed_by c (rewound cs s) can.0))
placed_at (c ∷ cs) s (suc i) x can h is = placed_at cs s i x can.1 (omega arith) is

pub placed_now : (found : List Change) (s t : State) (i : ℕ) (x : Change) → CanRewind found s → i < length found → x ≡ get_or found i x → t ≡ record s { logs = settled_all (take i found) s.logs } → IsPlaced (length t.logs) x
placed_now found s t i x can h is so_far =
    subst (λ (n : ℕ). IsPlaced n x) (sym (ap (λ (y : State). length y.logs) so_far ∙ length-settled (take i found) s.logs)) (placed_at found s i x can h is)

settled-append : (cs : List Change) (c : Change) (ls : List (Path × Log)) → settled_all (cs ++ c ∷ []) ls ≡ settled_by c (settled_all cs ls)
settled-append [] c ls = refl
settled-append (d ∷ cs) c ls = settled-append cs c (settled_by d ls)

-- one more history has settled
pub settled_next : (found : List Change) (s t u : State) (i : ℕ) (x : Change) → i < length found → x ≡ get_or found i x → t ≡ record s { logs = settled_all (take i found) s.logs } → u ≡ record t { logs = settled_by x t.logs }
    → u ≡ record s { logs = settled_all (take (i + 1) found) s.logs }
settled_next found s t u i x h is so_far next =
    next
    ∙ ap (λ (y : State). let z : State = record y { logs = settled_by x y.logs } in z) so_far
    ∙ ap (λ (ls : List (Path × Log)). let z : State = record s { logs = ls } in z)
    (sym (ap (λ (cs : List Change). settled_all cs s.logs) (take_more found i x h ∙ ap (λ (y : Change). take i found ++ y ∷ []) (sym is)) ∙ settled-append (take i found) x s.logs))

-- a history that settles is a log that rolls
settled_log : (o : Option ℕ) (h : History) → h.capacity ≡ o → log_of (settled o h) ≡ (let m : History = settled_history o (history_of (log_of h)) in record { capacity = o; gone = m.gone; kept = m.kept })
settled_log None h e = ap (λ (c : Option ℕ). let l : Log = record { capacity = c; gone = h.gone; kept = h.kept } in l) e
settled_log (Some n) h e = ap (λ (c : Option ℕ). let l : Log = record { capacity = c; gone = h.gone + (length h.kept - n); kept = keep_last n h.kept } in l) e

pub log_settled : (h : History) → log_of (settled h.capacity h) ≡ rolled (log_of h)
log_settled h = settled_log h.capacity h refl

-- what a state stands for at the end of a step
pub ended_as : (old k : Kept) (t b : State) (xs : List ℕ) (n : ℕ) → old ≡ k → t ≡ roll old.now → b ≡ t → xs ≡ old.stamps → n ≡ old.steps
    → (let x : Kept = record { plan = old.plan; time = old.time; now = t; since = old.time; before = b; stamps = xs; steps = n } in x) ≡ record k { now = roll k.now; since = k.time; before = roll k.now }
ended_as old k t b xs n e is before stamps steps =
    same_kept old.plan old.time old.time t (roll old.now) b (roll old.now) xs old.stamps n old.steps is (before ∙ is) stamps steps
    ∙ ap (λ (x : Kept). let y : Kept = record x { now = roll x.now; since = x.time; before = roll x.now } in y) e

-- and after all was taken back
pub undone_as : (old k : Kept) (t b : State) (xs : List ℕ) (n : ℕ) → old ≡ k → t ≡ old.before → b ≡ t → xs ≡ old.stamps → n ≡ old.steps
    → (let x : Kept = record { plan = old.plan; time = old.since; now = t; since = old.since; before = b; stamps = xs; steps = n } in x) ≡ record k { now = k.before; time = k.since }
undone_as old k t b xs n e is before stamps steps =
    same_kept old.plan old.since old.since t old.before b old.before xs old.stamps n old.steps is (before ∙ is) stamps steps
    ∙ ap (λ (x : Kept). let y : Kept = record x { now = x.before; time = x.since } in y) e
