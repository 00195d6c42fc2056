-- Events from a number on, by the moments at which their alarms were raised.
use Rattle.std.proofs.Common.{◌≡◌, ◌+◌, ◌-◌, ◌<◌, ◌≤◌, ◌⊎◌, inl, inr, ℕ, zero, suc, Bool, true, false, not, ◌&&◌, ◌||◌, cond, List, [], ◌∷◌, ◌++◌, length, take, drop, reverse, Option, Some, None, refl, sym, ap, ◌∙◌, subst, true≢false, arith}
use Rattle.std.specs.Prelude.{nat_eq, nat_le, option_map, slice_get, slice_index_or}
use Rattle.std.specs.List.{list_any}
use Rattle.std.proofs.lemmas.Bool.{leb-true, le-leb}
use Rattle.std.proofs.lemmas.Bool.Decides.{eqb_tells, leb_tells}
use Rattle.std.proofs.lemmas.List.{reverse-reverse}
use Rattle.ob_times.specs.Times.{Instant}
use Rattle.ob_alarms.specs.AlarmObjects.{ack_time, object_in, shown_alarm}
use Rattle.ob_alarms.specs.AsOf.{as_of, told_event}
use Rattle.ob_alarms.specs.Changes.{State, alarm_of}
use Rattle.ob_alarms.specs.Shown.{turn_numbers}
use Rattle.ob_alarms.specs.Since.{is_within, was_within, any_within, happened_since, AllKnown}
use Rattle.ob_alarms.specs.Soundness.{EventsShowAlarms}
use Rattle.ob_alarms.specs.Within.{HasAllWithin, is_before, is_after}
use Rattle.ob_alarms.specs.declared.alarm.Alarm.{Alarm}
use Rattle.ob_alarms.specs.declared.alarm.Event.{Event}
use Rattle.ob_alarms.specs.declared.alarm.Turn.{Turn}
use Rattle.ob_alarms.specs.declared.rule.Rule.{Rule}
use Rattle.ob_alarms.proofs.Counting.{get_some, get_within, get_front}
use Rattle.ob_alarms.proofs.EventsShown.{IsShown, Happened, ShowsIt, oldest_first, stands, told_of, shown_of, get_drop}
use Rattle.ob_alarms.proofs.Rewound.{some_inj, get_take, told_event_is}

-- ---- some, in a list

module _ {A : Type 0} (p : A → Bool) where
  any_found : (xs : List A) → list_any p xs ≡ true → (i : ℕ) × (x : A) × (slice_get xs i ≡ Some x) × (p x ≡ true)
  any_found [] e = absurd (true≢false (sym e))
  any_found (x ∷ xs) e = go (p x) refl e (any_found xs)
    where
      go : (b : Bool) → p x ≡ b → (b || list_any p xs) ≡ true → (list_any p xs ≡ true → (i : ℕ) × (y : A) × (slice_get xs i ≡ Some y) × (p y ≡ true))
          → (i : ℕ) × (y : A) × (slice_get (x ∷ xs) i ≡ Some y) × (p y ≡ true)
      go true is e later = (0, x, refl, is)
      go false is e later = let f = later e in (suc f.0, f.1, f.2, f.3)

  any_there : (xs : List A) (i : ℕ) (x : A) → slice_get xs i ≡ Some x → p x ≡ true → list_any p xs ≡ true
  any_there [] i x at is = absurd cc
  any_there (y ∷ xs) zero x at is = ap (λ (b : Bool). b || list_any p xs) (ap p (some_inj y x at) ∙ is)
  any_there (y ∷ xs) (suc i) x at is = go (p y) (any_there xs i x at is)
    where
      go : (b : Bool) → list_any p xs ≡ true → (b || list_any p xs) ≡ true
      go true e = refl
      go false e = e

same_truth : (a b : Bool) → (a ≡ true → b ≡ true) → (b ≡ true → a ≡ true) → a ≡ b
same_truth true b there back = sym (there refl)
same_truth false true there back = back refl
same_truth false false there back = refl

both_true : (a b : Bool) → (a && b) ≡ true → (a ≡ true) × (b ≡ true)
both_true true b e = (refl, e)
both_true false b e = absurd (true≢false (sym e))

-- ---- what happened to an alarm

shown_since : (from m : ℕ) (a : Alarm) → IsShown a m → from ≤ m → happened_since from a ≡ true
shown_since from m a (inl q) le = ap (λ (b : Bool). b || list_any (nat_le from) (turn_numbers a.normal ++ turn_numbers (ack_time a.ack))) (le-leb from a.raised.event (omega (arith, q, le)))
shown_since from m a (inr q) le = first (nat_le from a.raised.event) (later a.normal (ack_time a.ack) q)
  where
    rest : List ℕ
    rest = turn_numbers a.normal ++ turn_numbers (ack_time a.ack)

    first : (b : Bool) → list_any (nat_le from) rest ≡ true → (b || list_any (nat_le from) rest) ≡ true
    first true e = refl
    first false e = e

    either : (b c : Bool) → c ≡ true → (b || c) ≡ true
    either true c e = refl
    either false c e = e

    later : (o k : Option Turn) → Happened o m ⊎ Happened k m → list_any (nat_le from) (turn_numbers o ++ turn_numbers k) ≡ true
    later None None (inl h) = absurd h
    later None None (inr h) = absurd h
    later None (Some t) (inl h) = absurd h
    later None (Some t) (inr h) = ap (λ (b : Bool). b || false) (le-leb from t.event (omega (arith, h, le)))
    later (Some t) k (inl h) = ap (λ (b : Bool). b || list_any (nat_le from) (turn_numbers k)) (le-leb from t.event (omega (arith, h, le)))
    later (Some t) None (inr h) = absurd h
    later (Some t) (Some u) (inr h) = either (nat_le from t.event) (nat_le from u.event || false) (ap (λ (b : Bool). b || false) (le-leb from u.event (omega (arith, h, le))))

since_shown : (from : ℕ) (a : Alarm) → happened_since from a ≡ true → (m : ℕ) × (from ≤ m) × IsShown a m
since_shown from a e = first (nat_le from a.raised.event) refl e
  where
    rest : List ℕ
    rest = turn_numbers a.normal ++ turn_numbers (ack_time a.ack)

    one : (k : Option Turn) → list_any (nat_le from) (turn_numbers k) ≡ true → (m : ℕ) × (from ≤ m) × Happened k m
    one None e = absurd (true≢false (sym e))
    one (Some t) e = go (nat_le from t.event) refl e
      where
        go : (b : Bool) → nat_le from t.event ≡ b → (b || false) ≡ true → (m : ℕ) × (from ≤ m) × (m ≡ t.event)
        go true is e = (t.event, leb-true from t.event is, refl)
        go false is e = absurd (true≢false (sym e))

    later : (o k : Option Turn) → list_any (nat_le from) (turn_numbers o ++ turn_numbers k) ≡ true → (m : ℕ) × (from ≤ m) × (Happened o m ⊎ Happened k m)
    later None k e = let f = one k e in (f.0, f.1, inr f.2)
    later (Some t) k e = two (nat_le from t.event) refl e
      where
        two : (b : Bool) → nat_le from t.event ≡ b → (b || list_any (nat_le from) (turn_numbers k)) ≡ true → (m : ℕ) × (from ≤ m) × ((m ≡ t.event) ⊎ Happened k m)
        two true is e = (t.event, leb-true from t.event is, inl refl)
        two false is e = let f = one k e in (f.0, f.1, inr f.2)

    first : (b : Bool) → nat_le from a.raised.event ≡ b → (b || list_any (nat_le from) rest) ≡ true → (m : ℕ) × (from ≤ m) × IsShown a m
    first true is e = (a.raised.event, leb-true from a.raised.event is, inl refl)
    first false is e = let f = later a.normal (ack_time a.ack) e in (f.0, f.1, inr f.2)

-- ---- the alarm of an event

not_zero : (n : ℕ) → 1 ≤ n → nat_eq n 0 ≡ false
not_zero n le = elim (eqb_tells n 0) [ inl t ↦ absurd (let none = t.1 in omega (arith, none, le)) | inr f ↦ f.0 ]

numbered : (number : ℕ) (alarms : List Alarm) → 1 ≤ number → alarm_of number alarms ≡ slice_get alarms (number - 1)
numbered number alarms le = ap (λ (b : Bool). cond b None (slice_get alarms (number - 1))) (not_zero number le)

module _ (rules : ℕ) (events : List Event) (alarms : List Alarm) (told : EventsShowAlarms rules (reverse events) alarms) where
  -- an event that stands at a place is shown by its alarm
  shown_at : (n : ℕ) (x : Event) → slice_get events n ≡ Some x → (1 ≤ x.number) × ShowsIt alarms (x.number - 1) n
  shown_at n x at = shown_of rules (reverse events) alarms told n x (stands (reverse events) n x (subst (λ (l : List Event). slice_get l n ≡ Some x) (sym (reverse-reverse events)) at))

  -- and what an alarm shows is an event of it
  event_at : (p : ℕ) (a : Alarm) → slice_get alarms p ≡ Some a → (n : ℕ) → IsShown a n → (x : Event) × (slice_get events n ≡ Some x) × (x.number ≡ p + 1)
  event_at p a at n s =
      let of = told_of rules (reverse events) alarms told p a at n s in
      (of.0, subst (λ (l : List Event). slice_get l n ≡ Some of.0) (reverse-reverse events) (oldest_first (reverse events) n of.0 of.1), of.2)

pub all_known : (rules : ℕ) (s : State) → EventsShowAlarms rules (reverse s.events) s.alarms → ((p : ℕ) (a : Alarm) → slice_get s.alarms p ≡ Some a → a.rule < length s.rules) → AllKnown s
all_known rules s told of_rules event e at =
    let shown = shown_at rules s.events s.alarms told event e at in
    let a : Alarm = shown.1.0 in
    let there : alarm_of e.number s.alarms ≡ Some a = numbered e.number s.alarms shown.0 ∙ shown.1.1 in
    let rule = get_some s.rules a.rule (of_rules (e.number - 1) a shown.1.1) in
    record {
      alarm = a;
      there = there;
      rule = rule.0;
      object = sym (told_event_is rules event s told)
          ∙ ap (told_event s event) at
          ∙ ap (λ (o : Option Alarm). shown_alarm s e.number (option_map (as_of event) o)) there
          ∙ ap (λ (o : Option Rule). object_in s.root o e.number (as_of event a)) rule.1;
    }

-- ---- the alarms of a part

module _ (start end : Option Instant) where
  not_both : (a : Alarm) → is_within start end a ≡ true → is_before start a ≡ true → ⊥
  not_both a within early = true≢false (sym within ∙ ap (λ (b : Bool). not b && not (is_after end a)) early)

  nor_after : (a : Alarm) → is_within start end a ≡ true → is_after end a ≡ true → ⊥
  nor_after a within late = go (is_before start a) (sym within ∙ ap (λ (b : Bool). not (is_before start a) && not b) late)
    where
      go : (b : Bool) → true ≡ (not b && false) → ⊥
      go true e = true≢false e
      go false e = true≢false e

  index_is : (l : List Alarm) (n : ℕ) (a : Alarm) → slice_get l n ≡ Some a → slice_index_or l n a ≡ a
  index_is [] n a e = absurd cc
  index_is (x ∷ xs) zero a e = some_inj x a e
  index_is (x ∷ xs) (suc n) a e = index_is xs n a e

  -- an alarm that was raised within bounds is in the part
  in_part : (alarms : List Alarm) (low high : ℕ) → HasAllWithin start end alarms low high → (p : ℕ) (a : Alarm) → slice_get alarms p ≡ Some a → is_within start end a ≡ true → (low ≤ p) × (p < high)
  in_part alarms low high has p a at within =
      elim (leb_tells low p) [
        | inl h ↦ elim (leb_tells high p) [
          | inl g ↦ let past = g.1 in absurd (nor_after a within (subst (λ (b : Alarm). is_after end b ≡ true) (index_is alarms p a at) (has.after p a past (get_within alarms p a at))))
          | inr g ↦ (h.1, g.1)
        ]
        | inr h ↦ absurd (not_both a within (subst (λ (b : Alarm). is_before start b ≡ true) (index_is alarms p a at) (has.before p a (omega arith) h.1)))
      ]

  is_there : (o : Option Alarm) → was_within start end o ≡ true → (a : Alarm) × (o ≡ Some a) × (is_within start end a ≡ true)
  is_there None e = absurd (true≢false (sym e))
  is_there (Some a) e = (a, refl, e)

  abbrev pub within_since : ℕ → Alarm → Bool
  within_since from a = is_within start end a && happened_since from a

  -- it is enough to look at the alarms of a part that has each alarm raised within bounds
  pub part_tells : (rules : ℕ) (s : State) (from low high : ℕ) → EventsShowAlarms rules (reverse s.events) s.alarms → HasAllWithin start end s.alarms low high
      → list_any (within_since from) (take (high - low) (drop low s.alarms)) ≡ any_within start end from s
  part_tells rules s from low high told has = same_truth (list_any (within_since from) part) (any_within start end from s) there back
    where
      part : List Alarm
      part = take (high - low) (drop low s.alarms)

      passes : Event → Bool
      passes e = was_within start end (alarm_of e.number s.alarms)

      there : list_any (within_since from) part ≡ true → any_within start end from s ≡ true
      there e =
          let f = any_found (within_since from) part e in
          let both = both_true (is_within start end f.1) (happened_since from f.1) f.3 in
          let at : slice_get s.alarms (low + f.0) ≡ Some f.1 = sym (get_drop s.alarms low f.0 (low + f.0) refl) ∙ get_front (drop low s.alarms) (high - low) f.0 f.1 f.2 in
          let since = since_shown from f.1 both.1 in
          let le : from ≤ since.0 = since.1 in
          let of = event_at rules s.events s.alarms told (low + f.0) f.1 at since.0 since.2 in
          let place : since.0 ≡ from + (since.0 - from) = omega (arith, le) in
          let number : of.0.number - 1 ≡ low + f.0 = omega (arith, of.2) in
          any_there passes (drop from s.events) (since.0 - from) of.0 (get_drop s.events from (since.0 - from) since.0 place ∙ of.1)
          (ap (was_within start end) (numbered of.0.number s.alarms (omega (arith, of.2)) ∙ ap (slice_get s.alarms) number ∙ at) ∙ both.0)

      back : any_within start end from s ≡ true → list_any (within_since from) part ≡ true
      back e =
          let f = any_found passes (drop from s.events) e in
          let at : slice_get s.events (from + f.0) ≡ Some f.1 = sym (get_drop s.events from f.0 (from + f.0) refl) ∙ f.2 in
          let shown = shown_at rules s.events s.alarms told (from + f.0) f.1 at in
          let a : Alarm = shown.1.0 in
          let within : is_within start end a ≡ true = sym (ap (was_within start end) (numbered f.1.number s.alarms shown.0 ∙ shown.1.1)) ∙ f.3 in
          let p : ℕ = f.1.number - 1 in
          let inside = in_part s.alarms low high has p a shown.1.1 within in
          let from_low : low ≤ p = inside.0 in
          let to_high : p < high = inside.1 in
          let place : p ≡ low + (p - low) = omega (arith, from_low) in
          let here : slice_get part (p - low) ≡ Some a = get_take (drop low s.alarms) (high - low) (p - low) (omega (arith, from_low, to_high)) ∙ get_drop s.alarms low (p - low) p place ∙ shown.1.1 in
          any_there (within_since from) part (p - low) a here
          (ap (λ (b : Bool). b && happened_since from a) within ∙ shown_since from (from + f.0) a shown.1.2 (omega arith))
