-- What a filter asks for is a part of records in order.
use Rattle.std.proofs.Common.{◌≡◌, ◌+◌, ◌-◌, ◌<◌, ℕ, Bool, false, not, List, [], ◌∷◌, ◌++◌, length, take, drop, min, refl, sym, ap, ◌∙◌, subst, arith, Option, Some, None, true≢false}
use Rattle.std.proofs.lemmas.List.{length-drop, take-append-drop, append-nil}
use Rattle.std.proofs.Math.Seq.{take-length}
use Rattle.std.proofs.lemmas.List.Elements.{filter-append}
use Rattle.std.specs.Prelude.{filter, slice_range, int_lt}
use Rattle.std.specs.List.{AllByRecursion}
use Rattle.ob_history.proofs.Parts.{take_of_take}
use Rattle.ob_times.specs.Times.{Instant, instant}
use Rattle.ob_history.specs.Records.{InOrder, is_before, is_after, passes, asked}
use Rattle.ob_history.specs.declared.records.Record.{Record}
use Rattle.ob_history.specs.declared.records.Filter.{Filter}
use Rattle.ob_history.proofs.Order.{InOrder-left, InOrder-right, Ends, ends, low_before, low_until, filter_from, take_filter, filter_front, none_behind}

pub ends_before : (start : Option Instant) (xs : List Record) → InOrder xs → Ends (is_before start) xs
ends_before (Some start) xs o = ends (λ z. int_lt z (instant start)) (low_before (instant start)) xs o
ends_before None [] o = tt
ends_before None (x ∷ xs) o = ((λ f. none xs), ends_before None xs o.1)
  where
    none : (ys : List Record) → AllByRecursion (λ (y : Record). false ≡ false) ys
    none [] = tt
    none (y ∷ ys) = (refl, none ys)

pub ends_until : (end : Option Instant) (xs : List Record) → InOrder xs → Ends (λ r. not (is_after end r)) xs
ends_until (Some end) xs o = ends (λ z. not (int_lt (instant end) z)) (low_until (instant end)) xs o
ends_until None [] o = tt
ends_until None (x ∷ xs) o = ((λ f. absurd (true≢false f)), ends_until None xs o.1)

-- so many from a place on, or as many as there are
taken_from : (xs : List Record) (from last limit : ℕ) → last ≡ from + min limit (length xs - from) → slice_range xs from last ≡ take limit (drop from xs)
taken_from xs from last limit e =
    let n : last - from ≡ min limit (length (drop from xs)) = rw (length-drop from xs) (omega arith) in
    ap (λ (n : ℕ). take n (drop from xs)) n ∙ sym (take_of_take limit (length (drop from xs)) (drop from xs)) ∙ ap (take limit) (take-length (drop from xs))

pub InOrder-part : (xs : List Record) (from last : ℕ) → InOrder xs → InOrder (slice_range xs from last)
InOrder-part xs from last o =
    let behind : InOrder (drop from xs) = InOrder-right (take from xs) (drop from xs) (subst InOrder (sym (take-append-drop from xs)) o) in
    InOrder-left (take (last - from) (drop from xs)) (drop (last - from) (drop from xs)) (subst InOrder (sym (take-append-drop (last - from) (drop from xs))) behind)

-- What a filter asks for: of the first so many records that aren't before the start, those that aren't
-- after the end, which stand in front.
pub asked_within : (f : Filter) (xs ys : List Record) (count from last to : ℕ) → InOrder xs → count ≡ length xs
    → from ≡ length (filter (is_before f.start) xs) → last ≡ from + min f.limit (count - from)
    → ys ≡ slice_range xs from last → to ≡ length (filter (λ r. not (is_after f.end r)) ys)
    → slice_range ys 0 to ≡ asked f xs
asked_within f xs ys count from last to o len e l is t =
    let high : Record → Bool = λ r. not (is_after f.end r) in
    let behind : InOrder (drop from xs) = InOrder-right (take from xs) (drop from xs) (subst InOrder (sym (take-append-drop from xs)) o) in
    let window : ys ≡ take f.limit (drop from xs) = is ∙ taken_from xs from last f.limit (rw (← len) l) in
    let passed : filter (passes f) xs ≡ filter high (drop from xs) = rw e (filter_from (is_before f.start) high xs (ends_before f.start xs o)) in
    let n : to - 0 ≡ length (filter high ys) = t' to t in
    ap (λ (n : ℕ). take n ys) n
    ∙ sym (filter_front high ys (ends_until f.end ys (subst InOrder (sym is) (InOrder-part xs from last o))))
    ∙ ap (filter high) window
    ∙ sym (take_filter high f.limit (drop from xs) (ends_until f.end (drop from xs) behind))
    ∙ ap (take f.limit) (sym passed)
  where
    t' : {n : ℕ} (to : ℕ) → to ≡ n → to - 0 ≡ n
    t' to e = omega arith

-- where the first list goes on past the start, nothing of the second is before it
pub count_first : (start : Instant) (xs ys : List Record) → InOrder (xs ++ ys) → length (filter (is_before (Some start)) xs) < length xs
    → length (filter (is_before (Some start)) xs) ≡ length (filter (is_before (Some start)) (xs ++ ys))
count_first start xs ys o lt =
    let none = none_behind (is_before (Some start)) xs ys (ends_before (Some start) (xs ++ ys) o) lt in
    sym (ap length (filter-append (is_before (Some start)) xs ys ∙ ap (λ (zs : List Record). filter (is_before (Some start)) xs ++ zs) none ∙ append-nil _))
