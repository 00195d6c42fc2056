-- How much logs count for, as they change.
use Rattle.std.proofs.Common.{◌≡◌, ℕ, zero, suc, ◌+◌, ◌-◌, ◌≤◌, ◌^◌, min, Bool, true, false, cond, List, [], ◌∷◌, length, take, Option, Some, None, refl, sym, ap, ◌∙◌, subst, arith, length-append, add-one}
use Rattle.std.specs.Prelude.{slice_get, slice_index_or, is_none}
use Rattle.ob_history.specs.declared.records.Record.{Record}
use Rattle.ob_site_rules.specs.Build.{Path}
use Rattle.ob_site_rules.specs.State.{Log, State, rolled, rolled_logs}
use Rattle.ob_site_rules.specs.Writes.{with_record, stored_in, stored_logs}
use Rattle.ob_site_state.specs.declared.change.Change.{Change}
use Rattle.ob_site_state.specs.declared.change.Change.TheVariants as change
use Rattle.ob_site_state.specs.declared.tally.Tally.{Tally}
use Rattle.ob_site_state.specs.Changes.{cut, with_log, undone, rewound}
use Rattle.ob_site_state.specs.Tallies.{capacities_of, counted, IsTallied, with_one}

-- what the first so many count for, and one more
pub stored_more : (ls : List (Path × Log)) (i : ℕ) (l : Path × Log) → slice_get ls i ≡ Some l
    → stored_logs (take (i + 1) ls) ≡ stored_logs (take i ls) + stored_in l.1.capacity (length l.1.kept)
stored_more ls i l e = ap (λ (n : ℕ). stored_logs (take n ls)) (add-one i) ∙ go ls i e
  where
    go : (ls : List (Path × Log)) (i : ℕ) → slice_get ls i ≡ Some l → stored_logs (take (suc i) ls) ≡ stored_logs (take i ls) + stored_in l.1.capacity (length l.1.kept)
    go [] i e = absurd cc
    go (x ∷ ls) zero e =
        let same : x ≡ l = cc in
        let one : stored_in x.1.capacity (length x.1.kept) ≡ stored_in l.1.capacity (length l.1.kept) = ap (λ (y : Path × Log). stored_in y.1.capacity (length y.1.kept)) same in
        omega arith
    go (x ∷ ls) (suc i) e = omega (arith, go ls i e)

pub stored_all : (ls : List (Path × Log)) (i : ℕ) → length ls ≤ i → stored_logs (take i ls) ≡ stored_logs ls
stored_all [] zero h = refl
stored_all [] (suc i) h = refl
stored_all (x ∷ ls) zero h = absurd (omega arith)
stored_all (x ∷ ls) (suc i) h = ap (λ (n : ℕ). stored_in x.1.capacity (length x.1.kept) + n) (stored_all ls i (omega arith))

-- the capacity of the log of a place
pub capacity_there : (ls : List (Path × Log)) (cs : List (Option ℕ)) (i : ℕ) (l : Path × Log) → capacities_of ls ≡ cs → slice_get ls i ≡ Some l → slice_index_or cs i None ≡ l.1.capacity
capacity_there ls cs i l is e = ap (λ (xs : List (Option ℕ)). slice_index_or xs i None) (sym is) ∙ go ls i e
  where
    go : (ls : List (Path × Log)) (i : ℕ) → slice_get ls i ≡ Some l → slice_index_or (capacities_of ls) i None ≡ l.1.capacity
    go [] i e = absurd cc
    go (x ∷ ls) zero e = let same : x ≡ l = cc in ap (λ (y : Path × Log). y.1.capacity) same
    go (x ∷ ls) (suc i) e = go ls i e

pub length-capacities : (ls : List (Path × Log)) → length (capacities_of ls) ≡ length ls
length-capacities [] = refl
length-capacities (l ∷ ls) = ap (λ n. suc n) (length-capacities ls)

-- a log that changes keeps its capacity
pub capacities-with_log : (f : Log → Log) → ((l : Log) → (f l).capacity ≡ l.capacity) → (place : ℕ) (ls : List (Path × Log)) → capacities_of (with_log f place ls) ≡ capacities_of ls
capacities-with_log f same place [] = refl
capacities-with_log f same zero (l ∷ ls) = ap (λ (c : Option ℕ). c ∷ capacities_of ls) (same l.1)
capacities-with_log f same (suc place) (l ∷ ls) = ap (λ (cs : List (Option ℕ)). l.1.capacity ∷ cs) (capacities-with_log f same place ls)

pub capacities-rolled : (ls : List (Path × Log)) → capacities_of (rolled_logs ls) ≡ capacities_of ls
capacities-rolled [] = refl
capacities-rolled (l ∷ ls) = ap (λ (cs : List (Option ℕ)). l.1.capacity ∷ cs) (capacities-rolled ls)

capacities-undone : (c : Change) (s : State) → capacities_of (undone c s).logs ≡ capacities_of s.logs
capacities-undone (change.Slot node slot) s = refl
capacities-undone (change.Records place len) s = capacities-with_log (cut len) (λ l. refl) place s.logs
capacities-undone (change.Event rule status) s = refl
capacities-undone (change.Contracts told) s = refl

pub capacities-rewound : (cs : List Change) (s : State) → capacities_of (rewound cs s).logs ≡ capacities_of s.logs
capacities-rewound [] s = refl
capacities-rewound (c ∷ cs) s = capacities-undone c (rewound cs s) ∙ capacities-rewound cs s

-- one more record counts where the log has no capacity
pub stored_one : (r : Record) (l : Log) (c : Option ℕ) → l.capacity ≡ c → stored_in l.capacity (length (with_record r l).kept) ≡ stored_in l.capacity (length l.kept) + cond (is_none l.capacity) 1 0
stored_one r l None e =
    subst (λ (o : Option ℕ). stored_in o (length (with_record r l).kept) ≡ stored_in o (length l.kept) + cond (is_none o) 1 0) (sym e) (length-append l.kept (r ∷ []))
stored_one r l (Some n) e =
    let same : n ≡ n + 0 = omega arith in
    subst (λ (o : Option ℕ). stored_in o (length (with_record r l).kept) ≡ stored_in o (length l.kept) + cond (is_none o) 1 0) (sym e) same

pub stored_with_record : (r : Record) (place : ℕ) (ls : List (Path × Log)) (l : Path × Log) → slice_get ls place ≡ Some l
    → stored_logs (with_log (with_record r) place ls) ≡ stored_logs ls + cond (is_none l.1.capacity) 1 0
stored_with_record r place [] l e = absurd cc
stored_with_record r zero (x ∷ ls) l e =
    let same : x ≡ l = cc in
    let one : stored_in (with_record r x.1).capacity (length (with_record r x.1).kept) ≡ stored_in x.1.capacity (length x.1.kept) + cond {A = ℕ} (is_none x.1.capacity) 1 0 = stored_one r x.1 x.1.capacity refl in
    let is : cond {A = ℕ} (is_none x.1.capacity) 1 0 ≡ cond {A = ℕ} (is_none l.1.capacity) 1 0 = ap (λ (y : Path × Log). cond {A = ℕ} (is_none y.1.capacity) 1 0) same in
    omega arith
stored_with_record r (suc place) (x ∷ ls) l e = omega (arith, stored_with_record r place ls l e)

stored_rolled_log : (c : Option ℕ) (l : Log) → l.capacity ≡ c → stored_in l.capacity (length (rolled l).kept) ≡ stored_in l.capacity (length l.kept)
stored_rolled_log None l e = go l.capacity e
  where
    go : (c : Option ℕ) → c ≡ None → (let m : Log = record { capacity = c; gone = l.gone; kept = l.kept } in stored_in c (length (rolled m).kept)) ≡ stored_in c (length l.kept)
    go None e = refl
    go (Some n) e = absurd cc
stored_rolled_log (Some n) l e = ap (λ (o : Option ℕ). stored_in o (length (rolled l).kept)) e ∙ sym (ap (λ (o : Option ℕ). stored_in o (length l.kept)) e)

-- logs that roll count for as much
pub stored_rolled : (ls : List (Path × Log)) → stored_logs (rolled_logs ls) ≡ stored_logs ls
stored_rolled [] = refl
stored_rolled (l ∷ ls) = omega (arith, stored_rolled_log l.1.capacity l.1 refl, stored_rolled ls)

-- the tally of the same logs
pub tallied_as : (t : Tally) (now before ls ms : List (Path × Log)) → ls ≡ now → ms ≡ before → IsTallied t now before → IsTallied t ls ms
tallied_as t now before ls ms a b tallied =
    subst (λ (x : List (Path × Log)). IsTallied t x ms) (sym a) (subst (λ (x : List (Path × Log)). IsTallied t now x) (sym b) tallied)

one_more : (b : Bool) (t n : ℕ) → t ≡ min n (2 ^ 64 - 1) → cond b (min (t + 1) (2 ^ 64 - 1)) t ≡ min (n + cond b 1 0) (2 ^ 64 - 1)
one_more true t n e = omega arith
one_more false t n e = omega arith

-- with one more record
pub tallied_more : (t u : Tally) (r : Record) (place : ℕ) (now before ls ms : List (Path × Log)) (l : Path × Log) → slice_get now place ≡ Some l → u ≡ with_one place t
    → ls ≡ with_log (with_record r) place now → ms ≡ before → IsTallied t now before → IsTallied u ls ms
tallied_more t u r place now before ls ms l e is logs same tallied =
    let what : is_none (slice_index_or t.capacities.items place None) ≡ is_none l.1.capacity = ap is_none (capacity_there now t.capacities.items place l tallied.capacities e) in
    let total : (with_one place t).total ≡ counted (with_log (with_record r) place now) =
    ap (λ (b : Bool). cond b (min (t.total + 1) (2 ^ 64 - 1)) t.total) what
    ∙ one_more (is_none l.1.capacity) t.total (stored_logs now) tallied.total
    ∙ ap (λ (n : ℕ). min n (2 ^ 64 - 1)) (sym (stored_with_record r place now l e)) in
    subst (λ (x : Tally). IsTallied x ls ms) (sym is)
    (tallied_as (with_one place t) (with_log (with_record r) place now) before ls ms logs same (record {
      capacities = capacities-with_log (with_record r) (λ m. refl) place now ∙ tallied.capacities;
      total = total;
      total_before = tallied.total_before;
    }))

-- after all was taken back
pub tallied_back : (t : Tally) (now before ls : List (Path × Log)) → ls ≡ before → capacities_of before ≡ capacities_of now → IsTallied t now before → IsTallied (record t { total = t.total_before }) ls ls
tallied_back t now before ls is same tallied =
    tallied_as (record t { total = t.total_before }) before before ls ls is is (record {
      capacities = same ∙ tallied.capacities;
      total = tallied.total_before;
      total_before = tallied.total_before;
    })

-- at the end of a step
pub tallied_on : (t : Tally) (now before ls : List (Path × Log)) → ls ≡ rolled_logs now → IsTallied t now before → IsTallied (record t { total_before = t.total }) ls ls
tallied_on t now before ls is tallied =
    let total : t.total ≡ counted (rolled_logs now) = tallied.total ∙ ap (λ (n : ℕ). min n (2 ^ 64 - 1)) (sym (stored_rolled now)) in
    tallied_as (record t { total_before = t.total }) (rolled_logs now) (rolled_logs now) ls ls is is (record {
      capacities = capacities-rolled now ∙ tallied.capacities;
      total = total;
      total_before = total;
    })
