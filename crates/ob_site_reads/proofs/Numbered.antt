-- The alarm events of a part of the alarms, by their numbers, one after the other.
use Rattle.std.proofs.Common.{◌≡◌, ℕ, zero, suc, ◌+◌, ◌<◌, ◌≤◌, false, inl, inr, List, [], ◌∷◌, ◌++◌, length, filter, Some, refl, sym, ap, ◌∙◌, subst, arith}
use Rattle.std.specs.Prelude.{◌↔◌, slice_get, slice_index, slice_index_or}
use Rattle.std.specs.List.{Contains}
use Rattle.std.specs.List.Sorted.{IsStrictlyIncreasing}
use Rattle.std.proofs.lemmas.Bool.Decides.{leb_tells}
use Rattle.std.proofs.lemmas.List.{get_or_default}
use Rattle.std.proofs.lemmas.List.Kept.{AllPairs-from_increasing}
use Rattle.std.proofs.lemmas.List.Elements.{Contains-get_or}
use Rattle.ob_object.specs.Object.{Object}
use Rattle.ob_history.specs.declared.records.Filter.{Filter}
use Rattle.ob_alarms.specs.declared.alarm.Event.{Event}
use Rattle.ob_alarms.specs.Changes.{State}
use Rattle.ob_alarms.specs.Shown.{IsOfPart}
use Rattle.ob_alarms.specs.Within.{HasAllWithin}
use Rattle.ob_site_rules.specs.Entries.{event_object}
use Rattle.ob_site_rules.specs.Watched.{passes}
use Rattle.ob_site_reads.proofs.Eventful.{some_events, none_yet, one_event}
use Rattle.ob_site_reads.proofs.Raised.{event_outside, none_between}

-- numbers of events, rising, among which is that of each event that passes a filter
pub record HasPassing (f : Filter) (s : State) (numbers : List ℕ) : Type 0 where
  pub rising : IsStrictlyIncreasing numbers
  pub there : (k : ℕ) → k < length numbers → slice_index numbers k < length s.events
  pub others : (n : ℕ) (e : Event) → slice_get s.events n ≡ Some e → (Contains numbers n → ⊥) → passes f (event_object s n) ≡ false

-- the events that pass of the first so many numbers: those up to any event that stands between these numbers and the rest
abbrev pub AreUpTo : Filter → State → ℕ → List ℕ → ℕ → List Object → Type 0
AreUpTo f s given numbers k events =
    (m : ℕ) → m ≤ length s.events → ((j : ℕ) → j < k → slice_index numbers j < m) → ((j : ℕ) → k ≤ j → j < length numbers → m ≤ slice_index numbers j) → events ≡ some_events f s given m

get_within : (es : List Event) (n : ℕ) (e : Event) → slice_get es n ≡ Some e → n < length es
get_within [] n e at = absurd cc
get_within (x ∷ es) zero e at = omega arith
get_within (x ∷ es) (suc n) e at = let lt = get_within es n e at in omega arith

-- those of the events of a part that has each alarm raised within the bounds are such
pub part_has_passing : (f : Filter) (s : State) (from to : ℕ) (numbers held : List ℕ) → numbers ≡ held → HasAllWithin f.start f.end s.alarms from to → IsStrictlyIncreasing held
    → ((n : ℕ) → Contains held n ↔ IsOfPart s.events from to n) → HasPassing f s numbers
part_has_passing f s from to numbers held same has rising exactly = subst (λ (l : List ℕ). HasPassing f s l) (sym same) (record {
  rising = rising;
  there = λ k lt. let h = (exactly (slice_index held k)).0 (Contains-get_or held k 0 lt) in get_within s.events (slice_index held k) h.0 h.1;
  others = λ n e at out. event_outside f s from to has n e at (λ low high. out ((exactly n).1 (e, at, low, high)));
})

-- a number that stands between those in front and those behind isn't among them
between : (numbers : List ℕ) (k n : ℕ) → ((j : ℕ) → j < k → slice_index numbers j < n) → ((j : ℕ) → k ≤ j → j < length numbers → n < slice_index numbers j) → Contains numbers n → ⊥
between numbers k n front behind c =
    let is : slice_index numbers c.0 ≡ n = get_or_default numbers c.0 0 n c.1 ∙ c.2 in
    elim (leb_tells k c.0) [
      | inl h ↦ let lt = behind c.0 h.1 c.1 in omega (arith, is)
      | inr h ↦ let lt = front c.0 h.1 in omega (arith, is)
    ]

pub none_first : (f : Filter) (s : State) (given : ℕ) (numbers : List ℕ) → HasPassing f s numbers → AreUpTo f s given numbers 0 []
none_first f s given numbers has m within front behind =
    sym (none_between f s given 0 m (omega arith) within (λ n e at above start below.
    has.others n e at (between numbers 0 n (λ j lt. absurd (omega arith)) (λ j le lt. let b = behind j le lt in omega arith)))
    ∙ none_yet f s given 0 (omega arith))

-- one number more
at_least : (numbers : List ℕ) → IsStrictlyIncreasing numbers → (k j : ℕ) → k ≤ j → j < length numbers → slice_index numbers k ≤ slice_index numbers j
at_least numbers rising k j le lt =
    elim (leb_tells (k + 1) j) [
      | inl h ↦ let less = AllPairs-from_increasing numbers rising k j 0 (let below = h.1 in omega arith) lt in omega arith
      | inr h ↦ let above = h.1 in let same : k ≡ j = omega arith in omega (arith, ap (λ (i : ℕ). slice_index numbers i) same)
    ]

next_event : (f : Filter) (s : State) (given : ℕ) (numbers : List ℕ) (k : ℕ) (events more : List Object) → HasPassing f s numbers → k < length numbers
    → (events ≡ some_events f s given (slice_index numbers k) → more ≡ some_events f s given (slice_index numbers k + 1)) → AreUpTo f s given numbers k events → AreUpTo f s given numbers (k + 1) more
next_event f s given numbers k events more has lt next old m within front behind =
    let event = slice_index numbers k in
    let there = has.there k lt in
    let passed = front k (omega arith) in
    next (old event (omega arith) (λ j below. AllPairs-from_increasing numbers has.rising j k 0 below lt) (λ j le inside. at_least numbers has.rising k j le inside))
    ∙ sym (none_between f s given (event + 1) m (omega arith) within (λ n e at above low high.
    has.others n e at (between numbers (k + 1) n
    (λ j below. let least = at_least numbers has.rising j k (omega arith) lt in omega arith)
    (λ j le inside. let least = behind j le inside in omega arith))))

pub event_given : (f : Filter) (s : State) (given : ℕ) (numbers : List ℕ) (k : ℕ) (events more : List Object) → HasPassing f s numbers → k < length numbers → given ≤ slice_index numbers k
    → more ≡ events ++ filter (passes f) (event_object s (slice_index numbers k) ∷ []) → AreUpTo f s given numbers k events → AreUpTo f s given numbers (k + 1) more
event_given f s given numbers k events more has lt le is =
    next_event f s given numbers k events more has lt (λ same.
    is ∙ ap (λ (l : List Object). l ++ filter (passes f) (event_object s (slice_index numbers k) ∷ [])) same ∙ sym (one_event f s given (slice_index numbers k) le))

pub event_passed_by : (f : Filter) (s : State) (given : ℕ) (numbers : List ℕ) (k : ℕ) (events : List Object) → HasPassing f s numbers → k < length numbers → slice_index numbers k < given
    → AreUpTo f s given numbers k events → AreUpTo f s given numbers (k + 1) events
event_passed_by f s given numbers k events has lt below =
    next_event f s given numbers k events events has lt (λ same.
    same ∙ none_yet f s given (slice_index numbers k) (omega arith) ∙ sym (none_yet f s given (slice_index numbers k + 1) (omega arith)))

pub all_numbers : (f : Filter) (s : State) (given : ℕ) (numbers : List ℕ) (events : List Object) → HasPassing f s numbers → AreUpTo f s given numbers (length numbers) events → events ≡ some_events f s given (length s.events)
all_numbers f s given numbers events has up = up (length s.events) (omega arith) has.there (λ j le lt. absurd (omega arith))
