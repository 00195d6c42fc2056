-- Records in order: parts of them, where a bound cuts them, and what a filter takes.
use Rattle.std.proofs.Common.{◌≡◌, ◌+◌, ◌-◌, ◌<◌, ◌≤◌, Bool, true, false, not, ◌&&◌, cond, List, [], ◌∷◌, ◌++◌, ℕ, zero, suc, ℤ, ◌≤ℤ◌, length, take, drop, refl, sym, ap, ◌∙◌, subst, true≢false, arith}
use Rattle.std.specs.Prelude.{filter, int_lt, slice_get, slice_index_or}
use Rattle.std.specs.List.{AllByRecursion}
use Rattle.std.specs.List.Sorted.{IsPartitionedBy, IsPartitionPoint}
use Rattle.std.proofs.lemmas.List.{length-append, get_or_default}
use Rattle.std.proofs.lemmas.Int.{ints}
use Rattle.std.proofs.lemmas.List.Elements.{All-from_recursion}
use Rattle.ob_times.specs.Times.{instant}
use Rattle.ob_history.specs.Records.{InOrder, Follows, MayFollow}
use Rattle.ob_history.specs.declared.records.Record.{Record}

pub InOrder-left : (xs ys : List Record) → InOrder (xs ++ ys) → InOrder xs
InOrder-left [] ys h = tt
InOrder-left (x ∷ []) ys h = (tt, tt)
InOrder-left (x ∷ y ∷ xs) ys h = (h.0, InOrder-left (y ∷ xs) ys h.1)

pub InOrder-right : (xs ys : List Record) → InOrder (xs ++ ys) → InOrder ys
InOrder-right [] ys h = h
InOrder-right (x ∷ xs) ys h = InOrder-right xs ys h.1

pub InOrder-more : (xs : List Record) (r : Record) → InOrder xs → MayFollow xs r → InOrder (xs ++ r ∷ [])
InOrder-more [] r h m = (tt, tt)
InOrder-more (x ∷ []) r h m = (m, (tt, tt))
InOrder-more (x ∷ y ∷ xs) r h m =
    (h.0, InOrder-more (y ∷ xs) r h.1 (subst (λ (n : ℕ). Follows (slice_get (x ∷ y ∷ xs) n) r) (next (length xs)) m))
  where
    next : (n : ℕ) → suc (suc n) - 1 ≡ suc (suc n - 1)
    next n = omega arith

-- a test of instants that fails of all that come after one it fails of
abbrev pub IsLow : (ℤ → Bool) → Type 0
IsLow p = (a b : ℤ) → a ≤ℤ b → p a ≡ false → p b ≡ false

module _ (p : ℤ → Bool) (low : IsLow p) where
  fails_from : (x : Record) (xs : List Record) → p (instant x.time) ≡ false → InOrder (x ∷ xs) → AllByRecursion (λ y. p (instant y.time) ≡ false) xs
  fails_from x [] f o = tt
  fails_from x (y ∷ ys) f o = let g = low _ _ o.0 f in (g, fails_from y ys g o.1)

  pub partitioned : (xs : List Record) → InOrder xs → IsPartitionedBy (λ r. p (instant r.time)) xs
  partitioned [] o i j d le lt h = absurd (omega arith)
  partitioned (x ∷ xs) o zero zero d le lt h = h
  partitioned (x ∷ xs) o zero (suc j) d le lt h =
      let go : (b : Bool) → p (instant x.time) ≡ b → b ≡ true =
      λ b. elim b as (λ b. p (instant x.time) ≡ b → b ≡ true) [ true ↦ λ e. refl | false ↦ λ e. absurd (true≢false (sym h ∙ All-from_recursion _ xs (fails_from x xs e o) j d (omega arith))) ] in
      go (p (instant x.time)) refl
  partitioned (x ∷ xs) o (suc i) zero d le lt h = absurd (omega arith)
  partitioned (x ∷ xs) o (suc i) (suc j) d le lt h = partitioned xs o.1 i j d (omega arith) (omega arith) h

  -- what holds of a place holds of all in front of it, and what fails of it fails of all behind
  pub holds_up_to : (xs : List Record) → InOrder xs → (place : ℕ) (x : Record) → place < length xs → x ≡ slice_index_or xs place x → p (instant x.time) ≡ true
      → (k : ℕ) (d : Record) → 0 ≤ k → k < place + 1 → p (instant (slice_index_or xs k d).time) ≡ true
  holds_up_to xs o place x lt e h k d from below =
      let same : x ≡ slice_index_or xs place d = e ∙ get_or_default xs place x d lt in
      partitioned xs o k place d (omega arith) lt (subst (λ (r : Record). p (instant r.time) ≡ true) same h)

  pub fails_behind : (xs : List Record) → InOrder xs → (place : ℕ) (x : Record) → place < length xs → x ≡ slice_index_or xs place x → p (instant x.time) ≡ false
      → (k : ℕ) (d : Record) → place ≤ k → k < length xs → p (instant (slice_index_or xs k d).time) ≡ false
  fails_behind xs o place x lt e h k d from below =
      let same : x ≡ slice_index_or xs place d = e ∙ get_or_default xs place x d lt in
      let no : p (instant (slice_index_or xs place d).time) ≡ false = subst (λ (r : Record). p (instant r.time) ≡ false) same h in
      let go : (b : Bool) → p (instant (slice_index_or xs k d).time) ≡ b → b ≡ false =
      λ b. elim b as (λ b. p (instant (slice_index_or xs k d).time) ≡ b → b ≡ false) [ true ↦ λ e. absurd (true≢false (sym (partitioned xs o place k d from below e) ∙ no)) | false ↦ λ e. refl ] in
      go (p (instant (slice_index_or xs k d).time)) refl

-- once a test fails it fails of all that follow
abbrev pub Ends : (Record → Bool) → List Record → Type 0
Ends p [] = Unit {0}
Ends p (x ∷ xs) = (p x ≡ false → AllByRecursion (λ y. p y ≡ false) xs) × Ends p xs

pub ends : (p : ℤ → Bool) → IsLow p → (xs : List Record) → InOrder xs → Ends (λ r. p (instant r.time)) xs
ends p low [] o = tt
ends p low (x ∷ xs) o = (λ f. fails_from p low x xs f o, ends p low xs o.1)

pub filter_none : (p : Record → Bool) (xs : List Record) → AllByRecursion (λ y. p y ≡ false) xs → filter p xs ≡ []
filter_none p [] h = refl
filter_none p (x ∷ xs) h = rw h.0 (filter_none p xs h.1)

-- What isn't low, once a test of the low ones fails it fails of all that follow: it is behind as many as
-- are low.
pub filter_from : (low high : Record → Bool) (xs : List Record) → Ends low xs → filter (λ r. not (low r) && high r) xs ≡ filter high (drop (length (filter low xs)) xs)
filter_from low high [] l = refl
filter_from low high (x ∷ xs) l =
    let rest = filter_from low high xs l.1 in
    let go : (a : Bool) → low x ≡ a → cond (not a && high x) (x ∷ filter (λ r. not (low r) && high r) xs) (filter (λ r. not (low r) && high r) xs) ≡ filter high (drop (length (cond a (x ∷ filter low xs) (filter low xs))) (x ∷ xs)) =
    λ a. elim a as (λ a. low x ≡ a → cond (not a && high x) (x ∷ filter (λ r. not (low r) && high r) xs) (filter (λ r. not (low r) && high r) xs) ≡ filter high (drop (length (cond a (x ∷ filter low xs) (filter low xs))) (x ∷ xs))) [
      | true ↦ λ e. rest
      | false ↦ λ e. let none = filter_none low xs (l.0 e) in
          ap (λ (zs : List Record). cond (high x) (x ∷ zs) zs) (rest ∙ ap (λ (n : List Record). filter high (drop (length n) xs)) none)
          ∙ sym (ap (λ (n : List Record). filter high (drop (length n) (x ∷ xs))) none)
    ] in
    go (low x) refl

-- the first so many of what passes are what passes of the first so many
pub take_filter : (p : Record → Bool) (n : ℕ) (xs : List Record) → Ends p xs → take n (filter p xs) ≡ filter p (take n xs)
take_filter p zero xs h = refl
take_filter p (suc n) [] h = refl
take_filter p (suc n) (x ∷ xs) h =
    let rest = take_filter p n xs h.1 in
    let go : (a : Bool) → p x ≡ a → take (suc n) (cond a (x ∷ filter p xs) (filter p xs)) ≡ cond a (x ∷ filter p (take n xs)) (filter p (take n xs)) =
    λ a. elim a as (λ a. p x ≡ a → take (suc n) (cond a (x ∷ filter p xs) (filter p xs)) ≡ cond a (x ∷ filter p (take n xs)) (filter p (take n xs))) [
      | true ↦ λ e. ap (λ t. x ∷ t) rest
      | false ↦ λ e. let none = filter_none p xs (h.0 e) in ap (take (suc n)) none ∙ nothing n ∙ sym (ap (take n) none) ∙ rest
    ] in
    go (p x) refl
  where
    nothing : (n : ℕ) → take (suc n) [] ≡ take {A = Record} n []
    nothing zero = refl
    nothing (suc n) = refl

-- what passes stands in front
pub filter_front : (p : Record → Bool) (xs : List Record) → Ends p xs → filter p xs ≡ take (length (filter p xs)) xs
filter_front p [] h = refl
filter_front p (x ∷ xs) h =
    let rest = filter_front p xs h.1 in
    let go : (a : Bool) → p x ≡ a → cond a (x ∷ filter p xs) (filter p xs) ≡ take (length (cond a (x ∷ filter p xs) (filter p xs))) (x ∷ xs) =
    λ a. elim a as (λ a. p x ≡ a → cond a (x ∷ filter p xs) (filter p xs) ≡ take (length (cond a (x ∷ filter p xs) (filter p xs))) (x ∷ xs)) [
      | true ↦ λ e. ap (λ t. x ∷ t) rest
      | false ↦ λ e. let none = filter_none p xs (h.0 e) in none ∙ sym (ap (λ (n : List Record). take (length n) (x ∷ xs)) none)
    ] in
    go (p x) refl

-- where one of the first list fails a test, none of the second passes it
pub none_behind : (p : Record → Bool) (xs ys : List Record) → Ends p (xs ++ ys) → length (filter p xs) < length xs → filter p ys ≡ []
none_behind p [] ys h lt = absurd (omega arith)
none_behind p (x ∷ xs) ys h lt =
    let go : (a : Bool) → p x ≡ a → length (cond a (x ∷ filter p xs) (filter p xs)) < length (x ∷ xs) → filter p ys ≡ [] =
    λ a. elim a as (λ a. p x ≡ a → length (cond a (x ∷ filter p xs) (filter p xs)) < length (x ∷ xs) → filter p ys ≡ []) [
      | true ↦ λ e l. none_behind p xs ys h.1 (omega arith)
      | false ↦ λ e l. filter_none p ys (right xs (h.0 e))
    ] in
    go (p x) refl lt
  where
    right : (zs : List Record) → AllByRecursion (λ y. p y ≡ false) (zs ++ ys) → AllByRecursion (λ y. p y ≡ false) ys
    right [] h = h
    right (z ∷ zs) h = right zs h.1

-- the number that pass a test is where a search for the first that fails ends
pub count_point : (p : Record → Bool) (xs : List Record) (i : ℕ) → i ≤ length xs → IsPartitionPoint (λ y. p y ≡ true) (λ y. p y ≡ false) xs i → i ≡ length (filter p xs)
count_point p [] i le h = omega arith
count_point p (x ∷ xs) zero le h =
    rw (h.1 0 x (omega arith) (omega arith)) (count_point p xs 0 (omega arith) ((λ k d a b. absurd (omega arith)), (λ k d a b. h.1 (suc k) d (omega arith) (omega arith))))
count_point p (x ∷ xs) (suc i) le h =
    rw (h.0 0 x (omega arith) (omega arith)) (ap (λ n. suc n) (count_point p xs i (omega arith) ((λ k d a b. h.0 (suc k) d (omega arith) (omega arith)), (λ k d a b. h.1 (suc k) d (omega arith) (omega arith)))))

pub low_before : (t : ℤ) → IsLow (λ z. int_lt z t)
low_before t a b le h = grind (arith, ints)

pub low_until : (t : ℤ) → IsLow (λ z. not (int_lt t z))
low_until t a b le h = grind (arith, ints)

-- with no bound nothing is before, and all is kept
pub filter_no : (xs : List Record) → 0 ≡ length (filter (λ (r : Record). false) xs)
filter_no [] = refl
filter_no (x ∷ xs) = filter_no xs

pub filter_all : (xs : List Record) → filter (λ (r : Record). true) xs ≡ xs
filter_all [] = refl
filter_all (x ∷ xs) = ap (λ t. x ∷ t) (filter_all xs)

pub filter_yes : (xs ys : List Record) → length xs + length ys ≡ length (filter (λ (r : Record). true) (xs ++ ys))
filter_yes xs ys = sym (ap length (filter_all (xs ++ ys)) ∙ length-append xs ys)
