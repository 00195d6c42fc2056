-- Records with their numbers: what a query asks for stands in a row, so that its numbers follow from the first one.
use Rattle.std.proofs.Common.{◌≡◌, ◌+◌, ◌-◌, ◌<◌, ◌≤◌, ℕ, zero, suc, Bool, true, false, not, ◌&&◌, cond, List, [], ◌∷◌, length, take, drop, min, Option, Some, None, refl, sym, ap, ◌∙◌, subst, arith}
use Rattle.std.proofs.lemmas.List.{length-drop}
use Rattle.std.specs.Prelude.{filter, nat_lt, unwrap_or}
use Rattle.std.specs.List.{enumerate_from, AllByRecursion}
use Rattle.std.proofs.lemmas.Bool.Decides.{nat_tests}
use Rattle.ob_history.specs.Records.{InOrder, is_before, is_after, passes, asked}
use Rattle.ob_history.specs.Queries.{is_below, passes_numbered, numbered}
use Rattle.ob_history.specs.declared.records.Record.{Record}
use Rattle.ob_history.specs.declared.records.Filter.{Filter}
use Rattle.ob_history.specs.declared.records.Query.{Query}
use Rattle.ob_history.proofs.Order.{Ends, filter_none}
use Rattle.ob_history.proofs.Asked.{ends_before, ends_until}

not_below : (from : Option ℕ) (n : ℕ) → unwrap_or from 0 ≤ n → is_below from n ≡ false
not_below None n le = refl
not_below (Some from) n le = grind (arith, nat_tests)

below : (from : Option ℕ) (n : ℕ) → n < unwrap_or from 0 → is_below from n ≡ true
below None n lt = absurd (omega arith)
below (Some from) n lt = grind (arith, nat_tests)

-- the first so many of what is numbered are the first so many, numbered
take_numbered : (n k : ℕ) (xs : List Record) → enumerate_from n (take k xs) ≡ take k (enumerate_from n xs)
take_numbered n zero xs = refl
take_numbered n (suc k) [] = refl
take_numbered n (suc k) (x ∷ xs) = ap (λ (t : List (ℕ × Record)). (n, x) ∷ t) (take_numbered (n + 1) k xs)

-- from its number on a query passes what its filter passes
numbers_pass : (q : Query) (n : ℕ) (xs : List Record) → unwrap_or q.from 0 ≤ n → filter (passes_numbered q) (enumerate_from n xs) ≡ filter (λ e. passes q.filter e.1) (enumerate_from n xs)
numbers_pass q n [] le = refl
numbers_pass q n (x ∷ xs) le =
    let rest = numbers_pass q (n + 1) xs (omega arith) in
    rw (not_below q.from n le) (ap (λ (t : List (ℕ × Record)). cond (passes q.filter x) ((n, x) ∷ t) t) rest)

-- what a query passes are those of its number on that its filter passes
numbers_from : (q : Query) (gone k : ℕ) (xs : List Record) → k ≡ unwrap_or q.from 0 - gone
    → filter (passes_numbered q) (enumerate_from gone xs) ≡ filter (λ e. passes q.filter e.1) (enumerate_from (gone + k) (drop k xs))
numbers_from q gone zero xs e =
    let same : gone + 0 ≡ gone = omega arith in
    numbers_pass q gone xs (omega arith) ∙ sym (ap (λ (n : ℕ). filter (λ e. passes q.filter e.1) (enumerate_from n xs)) same)
numbers_from q gone (suc k) [] e = refl
numbers_from q gone (suc k) (x ∷ xs) e =
    let rest = numbers_from q (gone + 1) k xs (omega arith) in
    let same : gone + 1 + k ≡ gone + suc k = omega arith in
    rw (below q.from gone (omega arith)) (rest ∙ ap (λ (n : ℕ). filter (λ e. passes q.filter e.1) (enumerate_from n (drop k xs))) same)

-- where none isn't after the end, a filter passes none, with numbers or without
none_until : (f : Filter) (n : ℕ) (xs : List Record) → AllByRecursion (λ r. not (is_after f.end r) ≡ false) xs
    → (filter (passes f) xs ≡ []) × (filter (λ e. passes f e.1) (enumerate_from n xs) ≡ [])
none_until f n [] h = (refl, refl)
none_until f n (x ∷ xs) h =
    let rest = none_until f (n + 1) xs h.1 in
    let no : (b : Bool) → (not b && not (is_after f.end x)) ≡ false = λ b. elim b as (λ b. (not b && not (is_after f.end x)) ≡ false) [ true ↦ refl | false ↦ h.0 ] in
    (rw (no (is_before f.start x)) rest.0, rw (no (is_before f.start x)) rest.1)

-- what a filter passes of records in order stands behind those that are before its start, and in a row
numbers_row : (f : Filter) (n : ℕ) (xs : List Record) → Ends (is_before f.start) xs → Ends (λ r. not (is_after f.end r)) xs
    → enumerate_from (n + length (filter (is_before f.start) xs)) (filter (passes f) xs) ≡ filter (λ e. passes f e.1) (enumerate_from n xs)
numbers_row f n [] low high = refl
numbers_row f n (x ∷ xs) low high = by_start (numbers_row f (n + 1) xs low.1 high.1) (is_before f.start x) refl
  where
    Rest : Type 0
    Rest = enumerate_from (n + 1 + length (filter (is_before f.start) xs)) (filter (passes f) xs) ≡ filter (λ e. passes f e.1) (enumerate_from (n + 1) xs)

    Row : Type 0
    Row = enumerate_from (n + length (filter (is_before f.start) (x ∷ xs))) (filter (passes f) (x ∷ xs)) ≡ filter (λ e. passes f e.1) (enumerate_from n (x ∷ xs))

    by_end : Rest → (b : Bool) → is_before f.start x ≡ false → is_after f.end x ≡ b → Row
    by_end rest true early late =
        let none = none_until f (n + 1) xs (high.0 (rw late refl)) in
        rw (early, late) (ap (enumerate_from (n + length (filter (is_before f.start) xs))) none.0 ∙ sym none.1)
    by_end rest false early late =
        let few : filter (is_before f.start) xs ≡ [] = filter_none (is_before f.start) xs (low.0 early) in
        let none : length (filter (is_before f.start) xs) ≡ 0 = ap length few in
        let place : n + length (filter (is_before f.start) xs) ≡ n = omega arith in
        let next : n + 1 + length (filter (is_before f.start) xs) ≡ n + 1 = omega arith in
        rw (early, late)
        (ap (λ (m : ℕ). enumerate_from m (x ∷ filter (passes f) xs)) place
        ∙ ap (λ (es : List (ℕ × Record)). let e : ℕ × Record = (n, x) in e ∷ es) (ap (λ (m : ℕ). enumerate_from m (filter (passes f) xs)) (sym next) ∙ rest))

    by_start : Rest → (b : Bool) → is_before f.start x ≡ b → Row
    by_start rest true early =
        let next : n + suc (length (filter (is_before f.start) xs)) ≡ n + 1 + length (filter (is_before f.start) xs) = omega arith in
        rw early (ap (λ (m : ℕ). enumerate_from m (filter (passes f) xs)) next ∙ rest)
    by_start rest false early = by_end rest (is_after f.end x) early refl

-- What a query asks for: of the kept records from its number on what its filter asks for, numbered from the first that
-- isn't before the start.
pub numbered_within : (q : Query) (gone : ℕ) (kept rest ys : List Record) (from number early : ℕ) → from ≡ unwrap_or q.from 0 → InOrder rest
    → number ≡ gone + min (from - gone) (length kept) → rest ≡ drop (from - gone) kept
    → early ≡ length (filter (is_before q.filter.start) rest) → ys ≡ asked q.filter rest
    → enumerate_from (number + early) ys ≡ numbered q gone kept
numbered_within q gone kept rest ys from number early f o n r e y =
    ap (enumerate_from (number + early)) y
    ∙ take_numbered (number + early) q.filter.limit (filter (passes q.filter) rest)
    ∙ ap (take q.filter.limit) (ap (λ (m : ℕ). enumerate_from (number + m) (filter (passes q.filter) rest)) e ∙ here rest r ∙ row ∙ whole)
  where
    k : ℕ
    k = from - gone

    early_ones : ℕ
    early_ones = length (filter (is_before q.filter.start) rest)

    row : enumerate_from (gone + k + early_ones) (filter (passes q.filter) rest) ≡ filter (λ e. passes q.filter e.1) (enumerate_from (gone + k) rest)
    row = numbers_row q.filter (gone + k) rest (ends_before q.filter.start rest o) (ends_until q.filter.end rest o)

    whole : filter (λ e. passes q.filter e.1) (enumerate_from (gone + k) rest) ≡ filter (passes_numbered q) (enumerate_from gone kept)
    whole = ap (λ (xs : List Record). filter (λ e. passes q.filter e.1) (enumerate_from (gone + k) xs)) r ∙ sym (numbers_from q gone k kept (ap (λ (n : ℕ). n - gone) f))

    here : (xs : List Record) → xs ≡ drop k kept → enumerate_from (number + early_ones) (filter (passes q.filter) xs) ≡ enumerate_from (gone + k + early_ones) (filter (passes q.filter) xs)
    here [] is = refl
    here (x ∷ xs) is =
        let long : suc (length xs) ≡ length kept - k = ap length is ∙ length-drop k kept in
        let place : number + early_ones ≡ gone + k + early_ones = omega arith in
        ap (λ (m : ℕ). enumerate_from m (filter (passes q.filter) (x ∷ xs))) place
