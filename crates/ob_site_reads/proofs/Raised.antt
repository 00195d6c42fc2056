-- An event of an alarm has the moment at which the alarm was raised, however it stood just after the event.
use Rattle.std.proofs.Common.{◌≡◌, ◌≤◌, ◌<◌, inl, inr, ℕ, zero, suc, ◌+◌, ◌-◌, length, subst, arith, Bool, true, false, cond, nat_eq, List, [], ◌∷◌, take, drop, ◌++◌, append-nil, filter, reverse, Option, Some, None, refl, sym, ap, ◌∙◌}
use Rattle.std.specs.Prelude.{slice_get, slice_index_or, unwrap_or}
use Rattle.std.proofs.lemmas.Bool.Decides.{leb_tells}
use Rattle.ob_values.proofs.Lists.{some_same}
use Rattle.ob_object.specs.Object.{Object}
use Rattle.ob_history.specs.declared.records.Filter.{Filter}
use Rattle.ob_alarms.specs.declared.alarm.Alarm.{Alarm}
use Rattle.ob_alarms.specs.declared.alarm.Event.{Event}
use Rattle.ob_alarms.specs.declared.alarm.Turn.{Turn}
use Rattle.ob_alarms.specs.declared.alarm.What.{What}
use Rattle.ob_alarms.specs.declared.alarm.What.TheVariants as what
use Rattle.ob_alarms.specs.declared.rule.Rule.{Rule}
use Rattle.ob_alarms.specs.AlarmObjects.{object_in, shown_alarm, shown_event, before_all, alarms_after}
use Rattle.ob_alarms.specs.Changes.{State, alarm_of, before, before_what}
use Rattle.ob_alarms.specs.Lists.{changed_at}
use Rattle.ob_alarms.specs.Soundness.{At}
use Rattle.ob_alarms.specs.Within.{HasAllWithin, is_before, is_after}
use Rattle.ob_replies.proofs.Numbered.{early_out, late_out}
use Rattle.ob_site_rules.specs.Entries.{empty_object, event_object, is_within, raised_at}
use Rattle.ob_site_rules.specs.Watched.{passes}
use Rattle.ob_site_reads.proofs.Eventful.{some_events, none_yet, one_event}

-- an alarm that is there, raised at the same moment
abbrev IsThere : Alarm → Option Alarm → Type 0
IsThere a there = (b : Alarm) × ((there ≡ Some b) × (b.raised ≡ a.raised))

in_front : (k n : ℕ) (alarms : List Alarm) (a : Alarm) → slice_get (take k alarms) n ≡ Some a → slice_get alarms n ≡ Some a
in_front zero n alarms a e = absurd cc
in_front (suc k) n [] a e = e
in_front (suc k) zero (x ∷ alarms) a e = e
in_front (suc k) (suc n) (x ∷ alarms) a e = in_front k n alarms a e

unchanged : (f : Alarm → Alarm) → ((x : Alarm) → (f x).raised ≡ x.raised) → (k n : ℕ) (alarms : List Alarm) (a : Alarm) → slice_get (changed_at k f alarms) n ≡ Some a → IsThere a (slice_get alarms n)
unchanged f keep k n [] a e = absurd cc
unchanged f keep zero zero (x ∷ alarms) a e = (x, (refl, sym (keep x) ∙ ap (λ (y : Alarm). y.raised) (some_same e)))
unchanged f keep zero (suc n) (x ∷ alarms) a e = (a, (e, refl))
unchanged f keep (suc k) zero (x ∷ alarms) a e = (x, (refl, ap (λ (y : Alarm). y.raised) (some_same e)))
unchanged f keep (suc k) (suc n) (x ∷ alarms) a e = unchanged f keep k n alarms a e

before_one : (w : What) (k n : ℕ) (alarms : List Alarm) (a : Alarm) → slice_get (before_what w k alarms) n ≡ Some a → IsThere a (slice_get alarms n)
before_one what.Raised k n alarms a e = (a, (in_front k n alarms a e, refl))
before_one what.Acked k n alarms a e = unchanged (λ (x : Alarm). record x { ack = None }) (λ x. refl) k n alarms a e
before_one what.Normal k n alarms a e = unchanged (λ (x : Alarm). record x { normal = None }) (λ x. refl) k n alarms a e

before_each : (es : List Event) (n : ℕ) (alarms : List Alarm) (a : Alarm) → slice_get (before_all es alarms) n ≡ Some a → IsThere a (slice_get alarms n)
before_each [] n alarms a e = (a, (e, refl))
before_each (x ∷ es) n alarms a e =
    let later = before_each es n (before x alarms) a e in
    let here = before_one x.what (x.number - 1) n alarms later.0 later.1.0 in
    (here.0, (here.1.0, here.1.1 ∙ later.1.1))

there_now : (es : List Event) (number : ℕ) (alarms : List Alarm) (a : Alarm) → alarm_of number (before_all es alarms) ≡ Some a → IsThere a (alarm_of number alarms)
there_now es number alarms a e = go (nat_eq number 0) e
  where
    go : (c : Bool) → cond c None (slice_get (before_all es alarms) (number - 1)) ≡ Some a → IsThere a (cond c None (slice_get alarms (number - 1)))
    go true e = absurd cc
    go false e = before_each es (number - 1) alarms a e

same_moment : (b a : Alarm) → b.raised ≡ a.raised → raised_at a ≡ raised_at b
same_moment b a e = ap (λ (t : Turn). let y : Alarm = record a { raised = t } in raised_at y) (sym e)

-- what is shown of an alarm that was raised at such a moment
shown_passes : (f : Filter) (s : State) (number : ℕ) (a : Alarm) → is_within f (raised_at a) ≡ false → passes f (unwrap_or (shown_alarm s number (Some a)) empty_object) ≡ false
shown_passes f s number a late = go (slice_get s.rules a.rule)
  where
    go : (r : Option Rule) → passes f (unwrap_or (object_in s.root r number a) empty_object) ≡ false
    go None = refl
    go (Some r) = late

-- an event whose alarm was raised at a moment that a filter doesn't pass doesn't pass it
pub raised_late : (f : Filter) (s : State) (event : ℕ) (e : Event) (within : Bool) → slice_get s.events event ≡ Some e
    → ((a : Alarm) → alarm_of e.number s.alarms ≡ Some a → within ≡ is_within f (raised_at a)) → within ≡ false → passes f (event_object s event) ≡ false
raised_late f s event e within there is late =
    ap (λ (o : Option Event). passes f (unwrap_or (shown_event s event o) empty_object)) there ∙ go (alarm_of e.number (alarms_after event s)) refl
  where
    go : (o : Option Alarm) → alarm_of e.number (alarms_after event s) ≡ o → passes f (unwrap_or (shown_alarm s e.number o) empty_object) ≡ false
    go None at = refl
    go (Some a) at =
        let now = there_now (reverse (drop (event + 1) s.events)) e.number s.alarms a at in
        shown_passes f s e.number a (ap (is_within f) (same_moment now.0 a now.1.1) ∙ sym (is now.0 now.1.0) ∙ late)

pub dropped : (f : Filter) (o : Object) (es : List Object) → passes f o ≡ false → es ≡ es ++ filter (passes f) (o ∷ [])
dropped f o es late = sym (ap (λ (b : Bool). es ++ cond b (o ∷ []) []) late ∙ append-nil es)

-- an event of an alarm that a filter doesn't pass doesn't pass it
alarm_out : (f : Filter) (s : State) (event : ℕ) (e : Event) → slice_get s.events event ≡ Some e
    → ((a : Alarm) → alarm_of e.number s.alarms ≡ Some a → is_within f (raised_at a) ≡ false) → passes f (event_object s event) ≡ false
alarm_out f s event e there out = raised_late f s event e false there (λ a at. sym (out a at)) refl

-- nor does one of an alarm that was raised before the start
pub early_event : (f : Filter) (s : State) (event : ℕ) (e : Event) → slice_get s.events event ≡ Some e → At (is_before f.start) (alarm_of e.number s.alarms) → passes f (event_object s event) ≡ false
early_event f s event e there before = alarm_out f s event e there (λ a at. early_out f a (subst (At (is_before f.start)) at before))

-- nor does one of an alarm outside of a part that has each alarm raised from the start on and up to the end
pub event_outside : (f : Filter) (s : State) (from to : ℕ) → HasAllWithin f.start f.end s.alarms from to → (event : ℕ) (e : Event) → slice_get s.events event ≡ Some e
    → (from < e.number → e.number ≤ to → ⊥) → passes f (event_object s event) ≡ false
event_outside f s from to has event e there none = alarm_out f s event e there (λ a at. numbered_out (nat_eq e.number 0) refl a at)
  where
    index_is : (alarms : List Alarm) (n : ℕ) (a : Alarm) → slice_get alarms n ≡ Some a → (n < length alarms) × (slice_index_or alarms n a ≡ a)
    index_is [] n a e = absurd cc
    index_is (x ∷ xs) zero a e = (omega arith, some_same e)
    index_is (x ∷ xs) (suc n) a e = let later = index_is xs n a e in let lt = later.0 in (omega arith, later.1)

    out : 1 ≤ e.number → (a : Alarm) → slice_get s.alarms (e.number - 1) ≡ Some a → is_within f (raised_at a) ≡ false
    out some a at =
        let here = index_is s.alarms (e.number - 1) a at in
        elim (leb_tells from (e.number - 1)) [
          | inl h ↦ elim (leb_tells to (e.number - 1)) [
            | inl g ↦ let past = g.1 in late_out f a (subst (λ (b : Alarm). is_after f.end b ≡ true) here.1 (has.after (e.number - 1) a past here.0))
            | inr g ↦ let low = h.1 in let high = g.1 in absurd (none (omega arith) (omega arith))
          ]
          | inr h ↦ early_out f a (subst (λ (b : Alarm). is_before f.start b ≡ true) here.1 (has.before (e.number - 1) a (omega arith) h.1))
        ]

    numbered_out : (b : Bool) → nat_eq e.number 0 ≡ b → (a : Alarm) → cond b None (slice_get s.alarms (e.number - 1)) ≡ Some a → is_within f (raised_at a) ≡ false
    numbered_out true is a at = absurd cc
    numbered_out false is a at = out (numbered e.number is) a at
      where
        numbered : (n : ℕ) → nat_eq n 0 ≡ false → 1 ≤ n
        numbered zero is = absurd (let q : true ≡ false = is in cc)
        numbered (suc n) is = omega arith

-- nor does any, where each alarm was raised before the start or after the end
pub no_event : (f : Filter) (s : State) (from to : ℕ) → HasAllWithin f.start f.end s.alarms from to → from ≡ to → (event : ℕ) (e : Event) → slice_get s.events event ≡ Some e → passes f (event_object s event) ≡ false
no_event f s from to has none event e there = event_outside f s from to has event e there (λ low high. omega (arith, none))

-- those that pass up to an event are those up to another, where none between them passes
pub none_between : (f : Filter) (s : State) (given from to : ℕ) → from ≤ to → to ≤ length s.events
    → ((n : ℕ) (e : Event) → slice_get s.events n ≡ Some e → given ≤ n → from ≤ n → n < to → passes f (event_object s n) ≡ false) → some_events f s given to ≡ some_events f s given from
none_between f s given from zero le within out = ap (λ (k : ℕ). some_events f s given k) (let same : 0 ≡ from = omega arith in same)
none_between f s given from (suc n) le within out =
    elim (leb_tells from n) [
      | inl h ↦ elim (leb_tells given n) [
        | inl g ↦
            let there = event_there s.events n (omega arith) in
            let next : suc n ≡ n + 1 = omega arith in
            ap (λ (k : ℕ). some_events f s given k) next
            ∙ one_event f s given n g.1
            ∙ sym (dropped f (event_object s n) (some_events f s given n) (out n there.0 there.1 g.1 h.1 (omega arith)))
            ∙ none_between f s given from n h.1 (omega arith) (λ k e at above low high. out k e at above low (omega arith))
        | inr g ↦ let first = h.1 in let below = g.1 in none_yet f s given (suc n) (omega arith) ∙ sym (none_yet f s given from (omega arith))
      ]
      | inr h ↦ let last = h.1 in ap (λ (k : ℕ). some_events f s given k) (let same : suc n ≡ from = omega arith in same)
    ]
  where
    event_there : (es : List Event) (n : ℕ) → n < length es → (e : Event) × (slice_get es n ≡ Some e)
    event_there [] n lt = absurd (omega arith)
    event_there (e ∷ es) zero lt = (e, refl)
    event_there (e ∷ es) (suc n) lt = event_there es n (omega arith)

-- so those that pass are among those from one on in front of which none passes
pub none_early : (f : Filter) (s : State) (given first from : ℕ) → from ≤ length s.events → ((n : ℕ) → given ≤ n → n < from → n < first)
    → ((event : ℕ) (e : Event) → slice_get s.events event ≡ Some e → event < first → passes f (event_object s event) ≡ false) → some_events f s given from ≡ []
none_early f s given first from le low early =
    none_between f s given 0 from (omega arith) le (λ n e at above start below. early n e at (low n above below)) ∙ none_yet f s given 0 (omega arith)
