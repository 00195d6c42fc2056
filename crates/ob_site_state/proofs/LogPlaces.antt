-- Logs of which one, told by its place, is another.
use Rattle.std.proofs.Common.{◌≡◌, ℕ, zero, suc, ◌<◌, List, [], ◌∷◌, ◌++◌, length, take, map, Option, Some, option_map, refl, sym, ap, ◌∙◌, subst, arith, ◌+◌, length-append}
use Rattle.std.specs.Prelude.{slice_get, slice_set, slice_index_or}
use Rattle.std.proofs.Math.Seq.{take-append_seam}
use Rattle.std.proofs.lemmas.List.{take_at}
use Rattle.ob_history.specs.declared.records.Record.{Record}
use Rattle.ob_history.specs.Logs.{History}
use Rattle.ob_history.specs.Records.{MayFollow}
use Rattle.ob_alarms.specs.Lists.{changed_at}
use Rattle.ob_times.specs.Times.{moment_instant}
use Rattle.ob_site_rules.specs.Build.{Path}
use Rattle.ob_site_rules.specs.State.{Log}
use Rattle.ob_site_rules.specs.Writes.{with_record}
use Rattle.ob_site_state.specs.Changes.{cut, with_log}
use Rattle.ob_site_state.specs.Kept.{log_of, entry_of, keys, LogsAreBy}
use Rattle.ob_site_state.proofs.Times.{now_follows, AreBy-more, AreBy-take}

-- a log that is changed as a history is one that is changed as a log
pub mapped : (g : History → History) (f : Log → Log) → ((h : History) → log_of (g h) ≡ f (log_of h)) → (place : ℕ) (ls : List (Path × History))
    → map entry_of (changed_at place (λ l. (l.0, g l.1)) ls) ≡ with_log f place (map entry_of ls)
mapped g f same place [] = refl
mapped g f same zero (l ∷ ls) = ap (λ (m : Log). let x : Path × Log = (l.0, m) in x ∷ map entry_of ls) (same l.1)
mapped g f same (suc place) (l ∷ ls) = ap (λ (ms : List (Path × Log)). entry_of l ∷ ms) (mapped g f same place ls)

pub length-with_log : (f : Log → Log) (place : ℕ) (ls : List (Path × Log)) → length (with_log f place ls) ≡ length ls
length-with_log f place [] = refl
length-with_log f zero (l ∷ ls) = refl
length-with_log f (suc place) (l ∷ ls) = ap (λ n. suc n) (length-with_log f place ls)

pub keys-with_log : (f : Log → Log) (place : ℕ) (ls : List (Path × Log)) → keys (with_log f place ls) ≡ keys ls
keys-with_log f place [] = refl
keys-with_log f zero (l ∷ ls) = refl
keys-with_log f (suc place) (l ∷ ls) = ap (λ (ps : List Path). l.0 ∷ ps) (keys-with_log f place ls)

-- a record that is put last and cut off
pub cut_back : (r : Record) (len : ℕ) (place : ℕ) (ls : List (Path × Log)) → Some len ≡ option_map (λ l. length l.1.kept) (slice_get ls place)
    → with_log (cut len) place (with_log (with_record r) place ls) ≡ ls
cut_back r len place [] e = refl
cut_back r len zero (l ∷ ls) e =
    let same : len ≡ length l.1.kept = cc in
    ap (λ (k : List Record). let m : Log = record l.1 { kept = k } in let x : Path × Log = (l.0, m) in x ∷ ls)
    (ap (λ n. take n (l.1.kept ++ r ∷ [])) same ∙ take-append_seam l.1.kept (r ∷ []))
cut_back r len (suc place) (l ∷ ls) e = ap (λ (ms : List (Path × Log)). l ∷ ms) (cut_back r len place ls e)

-- a record that is put last is one more
pub record_told : (r : Record) (len place : ℕ) (ls : List (Path × Log)) → Some len ≡ option_map (λ l. length l.1.kept) (slice_get ls place)
    → (l : Path × Log) → slice_get (with_log (with_record r) place ls) place ≡ Some l → length l.1.kept ≡ len + 1
record_told r len place [] e l f = absurd cc
record_told r len zero (x ∷ ls) e l f =
    let y : Path × Log = (x.0, with_record r x.1) in
    let same : y ≡ l = cc in
    let was : len ≡ length x.1.kept = cc in
    let more : length (x.1.kept ++ r ∷ []) ≡ len + 1 = omega (arith, length-append x.1.kept (r ∷ []), was) in
    sym (ap (λ (z : Path × Log). length z.1.kept) same) ∙ more
record_told r len (suc place) (x ∷ ls) e l f = record_told r len place ls e l f

-- in time
pub follows_at : (time : ℕ) (r : Record) → r.time ≡ moment_instant time → (place : ℕ) (ls : List (Path × Log)) → LogsAreBy time ls → (l : Path × Log) → slice_get ls place ≡ Some l → MayFollow l.1.kept r
follows_at time r is place [] by l e = absurd cc
follows_at time r is zero (x ∷ ls) by l e =
    let same : x ≡ l = cc in subst (λ (y : Path × Log). MayFollow y.1.kept r) same (now_follows time x.1.kept r is by.0)
follows_at time r is (suc place) (x ∷ ls) by l e = follows_at time r is place ls by.1 l e

pub recorded_by : (time : ℕ) (r : Record) → r.time ≡ moment_instant time → (place : ℕ) (ls : List (Path × Log)) → LogsAreBy time ls → LogsAreBy time (with_log (with_record r) place ls)
recorded_by time r is place [] by = tt
recorded_by time r is zero (l ∷ ls) by = (AreBy-more time l.1.kept r is by.0, by.1)
recorded_by time r is (suc place) (l ∷ ls) by = (by.0, recorded_by time r is place ls by.1)

pub cut_by : (time len place : ℕ) (ls : List (Path × Log)) → LogsAreBy time ls → LogsAreBy time (with_log (cut len) place ls)
cut_by time len place [] by = tt
cut_by time len zero (l ∷ ls) by = (AreBy-take time len l.1.kept by.0, by.1)
cut_by time len (suc place) (l ∷ ls) by = (by.0, cut_by time len place ls by.1)

-- what is set at a place
pub set_changed : {A : Type 0} (f : A → A) (i : ℕ) (xs : List A) (x y : A) → i < length xs → x ≡ slice_index_or xs i x → y ≡ f x → slice_set xs i y ≡ changed_at i f xs
set_changed f i [] x y h is to = absurd (omega arith)
set_changed f zero (z ∷ xs) x y h is to = ap (λ a. a ∷ xs) (to ∙ ap f is)
set_changed f (suc i) (z ∷ xs) x y h is to = ap (λ l. z ∷ l) (set_changed f i xs x y (omega arith) is to)

-- a history that is set at a place
pub set_log : (g : History → History) (i : ℕ) (ls : List (Path × History)) (x : Path × History) (new : History) → i < length ls → x ≡ slice_index_or ls i x → new ≡ g (slice_index_or ls i x).1
    → slice_set ls i ((slice_index_or ls i x).0, new) ≡ changed_at i (λ l. (l.0, g l.1)) ls
set_log g i ls x new h is to =
    set_changed (λ l. (l.0, g l.1)) i ls x ((slice_index_or ls i x).0, new) h is
    (ap (λ (m : History). let z : Path × History = ((slice_index_or ls i x).0, m) in z) to ∙ ap (λ (y : Path × History). let z : Path × History = (y.0, g y.1) in z) (sym is))

-- what stands at a place, as a log
pub entry_there : (i : ℕ) (ls : List (Path × History)) (x : Path × History) → i < length ls → x ≡ slice_index_or ls i x → slice_get (map entry_of ls) i ≡ Some (entry_of (slice_index_or ls i x))
entry_there i [] x h is = absurd (omega arith)
entry_there zero (z ∷ ls) x h is = refl
entry_there (suc i) (z ∷ ls) x h is = entry_there i ls x (omega arith) is

-- a history that is set at a place, by what its log becomes
pub set_entry : (f : Log → Log) (i : ℕ) (ls : List (Path × History)) (x : Path × History) (new : History) → i < length ls → log_of new ≡ f (log_of (slice_index_or ls i x).1)
    → map entry_of (slice_set ls i ((slice_index_or ls i x).0, new)) ≡ with_log f i (map entry_of ls)
set_entry f i [] x new h to = absurd (omega arith)
set_entry f zero (z ∷ ls) x new h to = ap (λ (m : Log). let y : Path × Log = (z.0, m) in y ∷ map entry_of ls) to
set_entry f (suc i) (z ∷ ls) x new h to = ap (λ (ms : List (Path × Log)). entry_of z ∷ ms) (set_entry f i ls x new (omega arith) to)

-- and as it was
pub set_same : (i : ℕ) (ls : List (Path × History)) (x : Path × History) (new : History) → i < length ls → new ≡ (slice_index_or ls i x).1 → slice_set ls i ((slice_index_or ls i x).0, new) ≡ ls
set_same i [] x new h to = absurd (omega arith)
set_same zero (z ∷ ls) x new h to = ap (λ (m : History). let y : Path × History = (z.0, m) in y ∷ ls) to
set_same (suc i) (z ∷ ls) x new h to = ap (λ (l : List (Path × History)). z ∷ l) (set_same i ls x new (omega arith) to)

-- a log with one more record
pub recorded_log : (new old : History) (r : Record) → new.capacity ≡ old.capacity → new.gone ≡ old.gone → new.kept ≡ old.kept ++ r ∷ [] → log_of new ≡ with_record r (log_of old)
recorded_log new old r a b c =
    ap (λ (x : Option ℕ). let l : Log = record { capacity = x; gone = new.gone; kept = new.kept } in l) a
    ∙ ap (λ (x : ℕ). let l : Log = record { capacity = old.capacity; gone = x; kept = new.kept } in l) b
    ∙ ap (λ (x : List Record). let l : Log = record { capacity = old.capacity; gone = old.gone; kept = x } in l) c

length-changed : {A : Type 0} (i : ℕ) (f : A → A) (xs : List A) → length (changed_at i f xs) ≡ length xs
length-changed i f [] = refl
length-changed zero f (x ∷ xs) = refl
length-changed (suc i) f (x ∷ xs) = ap (λ n. suc n) (length-changed i f xs)

-- logs that were lent and given back with one changed
pub lent_back : (g : History → History) (f : Log → Log) → ((h : History) → log_of (g h) ≡ f (log_of h)) → (place len : ℕ) (old new more : List (Path × History)) → len ≡ length old
    → new ≡ changed_at place (λ l. (l.0, g l.1)) old → map entry_of (take len (new ++ more)) ≡ with_log f place (map entry_of old)
lent_back g f same place len old new more at is =
    let n : length new ≡ len = ap length is ∙ length-changed place (λ l. (l.0, g l.1)) old ∙ sym at in
    ap (map entry_of) (take_at new more len n ∙ is) ∙ mapped g f same place old
