-- Records from one place up to another, and what is shown of them.
use Rattle.std.proofs.Common.{◌≡◌, ℕ, zero, suc, ◌+◌, ◌-◌, ◌<◌, ◌≤◌, Bool, true, false, not, ◌&&◌, List, [], ◌∷◌, ◌++◌, length, drop, take, Option, Some, None, option_map, refl, sym, ap, ◌∙◌, subst, true≢false, arith, length-drop, length-take, take_all}
use Rattle.std.specs.Prelude.{slice_get}
use Rattle.circular_buffer.specs.Buffer.{last_item}
use Rattle.ob_history.specs.declared.records.Record.{Record}
use Rattle.ob_history.specs.Logs.{History, kept_since}
use Rattle.ob_times.specs.Times.{Instant}
use Rattle.ob_values.proofs.Bools.{both_true}
use Rattle.ob_site_rules.specs.Build.{number_slot, time_slot}
use Rattle.ob_site_rules.specs.Sameness.{same_slot}
use Rattle.ob_site_rules.specs.State.{Log, rolled}
use Rattle.ob_site_rules.specs.Shown.{first_record}
use Rattle.ob_shown_laws.specs.Changed.{same_log}
use Rattle.ob_site_state.specs.Changes.{cut}
use Rattle.ob_site_state.specs.Kept.{log_of}
use Rattle.ob_site_laws.proofs.Same.{tells_slot}
use Rattle.ob_site_settling.specs.declared.spans.Span.{Span}
use Rattle.ob_site_settling.specs.Spans.{span_of, same_spans, dropped_by}

got_drop : {A : Type 0} (n k : ℕ) (xs : List A) → slice_get (drop n xs) k ≡ slice_get xs (n + k)
got_drop zero k xs = let e : k ≡ 0 + k = omega arith in ap (slice_get xs) e
got_drop (suc n) k [] = refl
got_drop (suc n) k (x ∷ xs) = let e : suc (n + k) ≡ suc n + k = omega arith in got_drop n k xs ∙ ap (slice_get (x ∷ xs)) e

pub got_take : {A : Type 0} (n k : ℕ) (xs : List A) → k < n → slice_get (take n xs) k ≡ slice_get xs k
got_take zero k xs h = absurd (omega arith)
got_take (suc n) k [] h = refl
got_take (suc n) zero (x ∷ xs) h = refl
got_take (suc n) (suc k) (x ∷ xs) h = got_take n k xs (omega arith)

-- the time at a place is that of the first of the records from there on
pub time_there : (h : History) (front back : List Record) (place : ℕ) (r : Option Instant) → front ++ back ≡ kept_since (h.gone + place) h
    → r ≡ option_map (λ x. x.time) (first_record (front ++ back)) → r ≡ option_map (λ x. x.time) (slice_get h.kept place)
time_there h front back place r is first =
    let e : h.gone + place - h.gone + 0 ≡ place = omega arith in
    first
    ∙ ap (λ (rs : List Record). option_map (λ (x : Record). x.time) (first_record rs)) is
    ∙ ap (option_map (λ (x : Record). x.time)) (got_drop (h.gone + place - h.gone) 0 h.kept ∙ ap (slice_get h.kept) e)

-- none of the records
pub span_none : (rs : List Record) (from to : ℕ) → from ≡ to → to ≤ length rs → (let x : Span = record { count = 0; first = None; last = None } in x) ≡ span_of (drop from (take to rs))
span_none rs from to same h = sym (ap span_of (nothing (drop from (take to rs)) none))
  where
    none : length (drop from (take to rs)) ≡ 0
    none = omega (arith, length-drop from (take to rs), length-take to rs, same, h)

    nothing : (xs : List Record) → length xs ≡ 0 → xs ≡ []
    nothing [] e = refl
    nothing (x ∷ xs) e = absurd (omega (arith, e))

-- some of them
pub span_some : (rs : List Record) (from to : ℕ) (count : ℕ) (first last : Option Instant) → from < to → to ≤ length rs → count ≡ to - from
    → first ≡ option_map (λ r. r.time) (slice_get rs from) → last ≡ option_map (λ r. r.time) (slice_get rs (to - 1))
    → (let x : Span = record { count = count; first = first; last = last } in x) ≡ span_of (drop from (take to rs))
span_some rs from to count first last lt le many a b =
    ap (λ (n : ℕ). let x : Span = record { count = n; first = first; last = last } in x) (many ∙ sym long)
    ∙ ap (λ (t : Option Instant). let x : Span = record { count = length some; first = t; last = last } in x) (a ∙ ap (option_map (λ (r : Record). r.time)) (sym at_first))
    ∙ ap (λ (t : Option Instant). let x : Span = record { count = length some; first = option_map (λ r. r.time) (first_record some); last = t } in x) (b ∙ ap (option_map (λ (r : Record). r.time)) (sym at_last))
  where
    some : List Record
    some = drop from (take to rs)

    long : length some ≡ to - from
    long = omega (arith, length-drop from (take to rs), length-take to rs, le)

    at_first : slice_get some 0 ≡ slice_get rs from
    at_first = let e : from + 0 ≡ from = omega arith in got_drop from 0 (take to rs) ∙ ap (slice_get (take to rs)) e ∙ got_take to from rs lt

    at_last : last_item some ≡ slice_get rs (to - 1)
    at_last =
        let e : from + (length some - 1) ≡ to - 1 = omega (arith, long, lt) in
        got_drop from (length some - 1) (take to rs) ∙ ap (slice_get (take to rs)) e ∙ got_take to (to - 1) rs (omega (arith, lt))

pub number_of : (m n : ℕ) → number_slot m ≡ number_slot n → m ≡ n
number_of m n e = cc

time_in : (a b : Option Instant) → time_slot a ≡ time_slot b → a ≡ b
time_in None None e = refl
time_in None (Some t) e = absurd cc
time_in (Some t) None e = absurd cc
time_in (Some t) (Some u) e = let same : t ≡ u = cc in ap (λ (x : Instant). Some x) same

spans_equal : (a b : Span) → same_spans a b ≡ true → a ≡ b
spans_equal a b h =
    let one = both_true (same_slot (number_slot a.count) (number_slot b.count)) (same_slot (time_slot a.first) (time_slot b.first) && same_slot (time_slot a.last) (time_slot b.last)) h in
    let two = both_true (same_slot (time_slot a.first) (time_slot b.first)) (same_slot (time_slot a.last) (time_slot b.last)) one.1 in
    ap (λ (n : ℕ). let x : Span = record { count = n; first = a.first; last = a.last } in x) (number_of a.count b.count (tells_slot.equal (number_slot a.count) (number_slot b.count) one.0))
    ∙ ap (λ (t : Option Instant). let x : Span = record { count = b.count; first = t; last = a.last } in x) (time_in a.first b.first (tells_slot.equal (time_slot a.first) (time_slot b.first) two.0))
    ∙ ap (λ (t : Option Instant). let x : Span = record { count = b.count; first = b.first; last = t } in x) (time_in a.last b.last (tells_slot.equal (time_slot a.last) (time_slot b.last) two.1))

all_true : (a b c : Bool) → a ≡ true → b ≡ true → c ≡ true → (a && (b && c)) ≡ true
all_true true true true e f g = refl
all_true false b c e f g = absurd (true≢false (sym e))
all_true true false c e f g = absurd (true≢false (sym f))
all_true true true false e f g = absurd (true≢false (sym g))

span_itself : (a : Span) → same_spans a a ≡ true
span_itself a =
    all_true (same_slot (number_slot a.count) (number_slot a.count)) (same_slot (time_slot a.first) (time_slot a.first)) (same_slot (time_slot a.last) (time_slot a.last))
    (tells_slot.itself (number_slot a.count)) (tells_slot.itself (time_slot a.first)) (tells_slot.itself (time_slot a.last))

pub same_test : (result : Bool) (a b : Span) → (result ≡ true → a ≡ b) → (a ≡ b → result ≡ true) → result ≡ same_spans a b
same_test result a b to from = go result (same_spans a b) refl refl
  where
    go : (x y : Bool) → result ≡ x → same_spans a b ≡ y → x ≡ y
    go true true e f = refl
    go true false e f = absurd (true≢false (sym (subst (λ (c : Span). same_spans a c ≡ true) (to e) (span_itself a)) ∙ f))
    go false true e f = absurd (true≢false (sym (from (spans_equal a b f)) ∙ e))
    go false false e f = refl

-- the records that a history keeps once it has dropped its oldest ones
rolled_kept : (o : Option ℕ) (h : History) → h.capacity ≡ o → (rolled (log_of h)).kept ≡ drop (dropped_by o (length h.kept)) h.kept
rolled_kept None h e = ap (λ (c : Option ℕ). let l : Log = record { capacity = c; gone = h.gone; kept = h.kept } in (rolled l).kept) e
rolled_kept (Some n) h e = ap (λ (c : Option ℕ). let l : Log = record { capacity = c; gone = h.gone; kept = h.kept } in (rolled l).kept) e

pub other_span : (h : History) (len all : ℕ) (capacity : Option ℕ) (before after : Span) (same : Bool) → h.capacity ≡ capacity → all ≡ length h.kept
    → before ≡ span_of (drop 0 (take len h.kept)) → after ≡ span_of (drop (dropped_by capacity all) (take all h.kept)) → same ≡ same_spans before after
    → not same ≡ not (same_log (Some (cut len (log_of h))) (Some (rolled (log_of h))))
other_span h len all capacity before after same is n b a test =
    ap not test
    ∙ ap (λ (x : Span). not (same_spans x after)) b
    ∙ ap (λ (x : Span). not (same_spans (span_of (take len h.kept)) x))
    (a ∙ ap (λ (m : ℕ). span_of (drop (dropped_by capacity m) (take m h.kept))) n
    ∙ ap (λ (rs : List Record). span_of (drop (dropped_by capacity (length h.kept)) rs)) (take_all (length h.kept) h.kept (omega arith))
    ∙ ap span_of (sym (rolled_kept capacity h is)))
