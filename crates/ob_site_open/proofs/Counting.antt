-- A log that is filled and settles.
use Rattle.std.proofs.Common.{◌≡◌, ◌≤◌, ℕ, zero, suc, ◌+◌, ◌-◌, ◌<◌, ℤ, ◌≤ℤ◌, List, [], ◌∷◌, ◌++◌, map, length, take, drop, get_or, replicate, Option, Some, None, refl, sym, ap, ◌∙◌, subst, inl, inr, arith, append_assoc, length-append, length-drop, take-append-drop}
use Rattle.std.proofs.lemmas.List.{length-replicate, map-append, take_all, take_more}
use Rattle.std.proofs.Math.Seq.{drop-append_seam}
use Rattle.std.proofs.lemmas.Int.{ints}
use Rattle.std.specs.Prelude.{slice_get}
use Rattle.std.specs.List.{AllByRecursion}
use Rattle.ob_times.specs.Times.{Instant, instant}
use Rattle.ob_history.specs.declared.records.Record.{Record}
use Rattle.ob_history.specs.Records.{InOrder, IsNotBefore, Follows, MayFollow}
use Rattle.ob_history.specs.Logs.{History, settled}
use Rattle.ob_site_rules.specs.Build.{Path}
use Rattle.ob_site_rules.specs.State.{Log, history_of, rolled, rolled_logs}
use Rattle.ob_plain_state.specs.declared.log.OpenedLog.{OpenedLog}
use Rattle.ob_plain_state.specs.States.{entry_of as opened_entry, log_of as opened_log}
use Rattle.ob_site_state.specs.Tallies.{capacities_of}
use Rattle.ob_opening_laws.specs.Records.{EachLog}
use Rattle.ob_site_file.proofs.Rests.{rest_more}
use Rattle.ob_site_state.specs.Kept.{log_of}
use Rattle.ob_site_open.specs.Logs.{stand_in, IsSettledBy}

-- a record in a list isn't before the last one in front of it
pub follows_last : (rs : List Record) (r : Record) (more : List Record) → InOrder (rs ++ r ∷ more) → MayFollow rs r
follows_last [] r more o = tt
follows_last (x ∷ []) r more o = o.0
follows_last (x ∷ y ∷ rs) r more o =
    let one : length (x ∷ y ∷ rs) - 1 ≡ suc (length rs) = omega arith in
    let other : length rs ≡ length (y ∷ rs) - 1 = omega arith in
    subst (λ (last : Option Record). Follows last r)
    (sym (ap (λ n. slice_get (x ∷ y ∷ rs) n) one ∙ ap (λ n. slice_get (y ∷ rs) n) other))
    (follows_last (y ∷ rs) r more o.1)

-- stand-ins of one time are in order, also in front of records that aren't before that
same_time : (t : Instant) → instant t ≤ℤ instant t
same_time t = go (instant t)
  where
    go : (z : ℤ) → z ≤ℤ z
    go z = omega (arith, ints)

not_before : (n : ℕ) (t : Instant) (ks : List Record) → IsNotBefore (stand_in t) ks → IsNotBefore (stand_in t) (replicate n (stand_in t) ++ ks)
not_before zero t ks h = h
not_before (suc n) t ks h = same_time t

pub in_order : (n : ℕ) (t : Instant) (ks : List Record) → IsNotBefore (stand_in t) ks → InOrder ks → InOrder (replicate n (stand_in t) ++ ks)
in_order zero t ks h o = o
in_order (suc n) t ks h o = (not_before n t ks h, in_order n t ks h o)

pub may_follow : (n : ℕ) (t : Instant) → MayFollow (replicate n (stand_in t)) (stand_in t)
may_follow n t = follows_last (replicate n (stand_in t)) (stand_in t) [] (in_order n t (stand_in t ∷ []) (same_time t) (tt, tt))

-- one record more of a list
pub next_in_order : (ks rs : List Record) (i : ℕ) (r : Record) → i < length rs → r ≡ get_or rs i r → InOrder (ks ++ rs) → MayFollow (ks ++ take i rs) r
next_in_order ks rs i r h is o =
    follows_last (ks ++ take i rs) r (drop (i + 1) rs)
    (subst InOrder (ap (λ l. ks ++ l) (split rs i r h is) ∙ sym (append_assoc ks (take i rs) (r ∷ drop (i + 1) rs))) o)
  where
    split : (xs : List Record) (i : ℕ) (x : Record) → i < length xs → x ≡ get_or xs i x → xs ≡ take i xs ++ x ∷ drop (i + 1) xs
    split xs i x h is = sym (take-append-drop i xs) ∙ ap (λ l. take i xs ++ l) (rest_more xs i x h is)

pub each_at : {A : Type 0} (P : A → Type 0) (xs : List A) (i : ℕ) (x : A) → i < length xs → x ≡ get_or xs i x → AllByRecursion P xs → P x
each_at P [] i x h is e = absurd (omega arith)
each_at P (y ∷ xs) zero x h is e = subst P (sym is) e.0
each_at P (y ∷ xs) (suc i) x h is e = each_at P xs i x (omega arith) is e.1

abbrev pub log : Option ℕ → ℕ → List Record → Log
log c g ks = record { capacity = c; gone = g; kept = ks }

-- a history that settles rolls
pub settled_rolls : (h : History) → log_of (settled h.capacity h) ≡ rolled (log_of h)
settled_rolls h = go h.capacity
  where
    go : (o : Option ℕ) → log (settled o h).capacity (settled o h).gone (settled o h).kept ≡ log h.capacity (settled o (history_of (log_of h))).gone (settled o (history_of (log_of h))).kept
    go None = refl
    go (Some c) = refl

-- what stands in front of the records that stay is counted
pub gone_counted : (o : Option ℕ) (g : ℕ) (s : Record) (ks : List Record) → IsSettledBy o g (length ks) → rolled (log o 0 (replicate g s ++ ks)) ≡ log o g ks
gone_counted None g s ks e = ap (λ n. log None 0 (replicate n s ++ ks)) e ∙ ap (λ n. log None n ks) (sym e)
gone_counted (Some c) g s ks (inl e) =
    let all : List Record = replicate g s ++ ks in
    let none : length all - c ≡ 0 = omega (arith, length-append (replicate g s) ks, length-replicate g s, e.0, e.1) in
    ap (λ n. log (Some c) (0 + n) (drop n all)) none
    ∙ ap (λ n. log (Some c) 0 (replicate n s ++ ks)) e.0
    ∙ ap (λ n. log (Some c) n ks) (sym e.0)
gone_counted (Some c) g s ks (inr e) =
    let all : List Record = replicate g s ++ ks in
    let above : length all - c ≡ g = omega (arith, length-append (replicate g s) ks, length-replicate g s, e) in
    let len : g ≡ length (replicate g s) = sym (length-replicate g s) in
    let zero_more : 0 + g ≡ g = omega arith in
    ap (λ n. log (Some c) (0 + n) (drop n all)) above
    ∙ ap (λ n. log (Some c) n (drop g all)) zero_more
    ∙ ap (λ n. log (Some c) g (drop n all)) len
    ∙ ap (λ (l : List Record). log (Some c) g l) (drop-append_seam (replicate g s) ks)

-- what is left of a list from a place on
pub left_over : {A : Type 0} (a : ℕ) (xs ys : List A) → ys ≡ xs → take (length ys - a) (drop a ys) ≡ drop a xs
left_over a xs ys is = take_all (length ys - a) (drop a ys) (omega (arith, length-drop a ys)) ∙ ap (drop a) is

-- what holds of each log that has rolled holds of the one of a place
pub rolled_at : (P : Log → Type 0) (ls : List (Path × OpenedLog)) (i : ℕ) (l : Path × OpenedLog) → i < length ls → l ≡ get_or ls i l
    → EachLog P (rolled_logs (map opened_entry ls)) → P (rolled (opened_log l.1))
rolled_at P [] i l h is e = absurd (omega arith)
rolled_at P (x ∷ ls) zero l h is e = subst (λ (y : Path × OpenedLog). P (rolled (opened_log y.1))) (sym is) e.0
rolled_at P (x ∷ ls) (suc i) l h is e = rolled_at P ls i l (omega arith) is e.1

-- the capacities of logs, one after the other
abbrev pub capacity_in : Path × OpenedLog → Option ℕ
capacity_in l = l.1.capacity

pub one_capacity : (done : List (Option ℕ)) (ls : List (Path × OpenedLog)) (i : ℕ) (l : Path × OpenedLog) → i < length ls → l ≡ get_or ls i l
    → done ≡ map capacity_in (take i ls) → done ++ capacity_in l ∷ [] ≡ map capacity_in (take (i + 1) ls)
one_capacity done ls i l h is so_far =
    ap (λ d. d ++ capacity_in l ∷ []) so_far
    ∙ ap (λ (x : Path × OpenedLog). map capacity_in (take i ls) ++ capacity_in x ∷ []) is
    ∙ sym (map-append capacity_in (take i ls) (get_or ls i l ∷ []))
    ∙ ap (map capacity_in) (sym (take_more ls i l h))

-- a log that has rolled has its capacity still
rolled_capacities : (ls : List (Path × OpenedLog)) → map capacity_in ls ≡ capacities_of (rolled_logs (map opened_entry ls))
rolled_capacities [] = refl
rolled_capacities (l ∷ ls) = ap (λ cs. l.1.capacity ∷ cs) (rolled_capacities ls)

pub all_capacities : (done : List (Option ℕ)) (ls : List (Path × OpenedLog)) (i : ℕ) → length ls ≤ i → done ≡ map capacity_in (take i ls) → done ≡ capacities_of (rolled_logs (map opened_entry ls))
all_capacities done ls i end so_far = so_far ∙ ap (map capacity_in) (take_all i ls end) ∙ rolled_capacities ls
