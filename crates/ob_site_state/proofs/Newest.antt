-- The newest event is of an alarm of the rule that is noted.
use Rattle.std.proofs.Common.{ℕ, ◌≡◌, zero, suc, ◌+◌, ◌-◌, ◌<◌, Bool, true, false, not, ◌&&◌, cond, List, [], ◌∷◌, ◌++◌, length, Option, Some, None, option_map, refl, sym, ap, ◌∙◌, arith, length-append}
use Rattle.std.specs.Prelude.{is_some, slice_get, nat_eq}
use Rattle.std.proofs.lemmas.Bool.Decides.{Decides-eqb, nat_tests}
use Rattle.circular_buffer.specs.Buffer.{last_item}
use Rattle.ob_alarms.specs.declared.alarm.Alarm.{Alarm}
use Rattle.ob_alarms.specs.declared.alarm.Event.{Event}
use Rattle.ob_alarms.specs.declared.alarm.What.{What}
use Rattle.ob_alarms.specs.declared.alarm.What.TheVariants as what
use Rattle.ob_alarms.specs.declared.rule.Rule.{Rule}
use Rattle.ob_alarms.specs.declared.rule.Num.{Num}
use Rattle.ob_alarms.specs.Limits.{TakenBy, Takes}
use Rattle.ob_alarms.specs.Lists.{first_place, changed_at}
use Rattle.ob_alarms.specs.States.{is_acked, needs_ack}
use Rattle.ob_alarms.specs.Changes.{State as Board, alarm_of, changed_alarm, fresh, ended, acked, next_turn, with_event, is_open, current, turn, outside_of, on_value, acked_if_needed, answered, on_ack}
use Rattle.ob_shown_laws.proofs.Leaving.{no_place}
use Rattle.ob_site_rules.specs.State.{State, numbered_from, with_board}
use Rattle.ob_site_rules.specs.declared.plan.Plan.{Plan}
use Rattle.ob_site_rules.specs.declared.plan.PointRule.{PointRule}
use Rattle.ob_site_state.specs.Changes.{events_before, AddsEvent, IsNewest}

place_below : (o : Option ℕ) (n : ℕ) → option_map (λ k. k + 1) o ≡ Some (suc n) → o ≡ Some n
place_below None n e = absurd cc
place_below (Some k) n e =
    let f : k + 1 ≡ suc n = cc in
    let g : k ≡ n = omega (arith, f) in ap (λ (x : ℕ). Some x) g

pub first_there : (P : Alarm → Bool) (xs : List Alarm) (n : ℕ) → first_place P xs ≡ Some n → (x : Alarm) × (slice_get xs n ≡ Some x) × (P x ≡ true)
first_there P [] n e = absurd cc
first_there P (y ∷ ys) n e = go (P y) refl n e (λ k f. first_there P ys k f)
  where
    go : (b : Bool) → P y ≡ b → (n : ℕ) → cond b (Some 0) (option_map (λ k. k + 1) (first_place P ys)) ≡ Some n
        → ((k : ℕ) → first_place P ys ≡ Some k → (x : Alarm) × (slice_get ys k ≡ Some x) × (P x ≡ true))
        → (x : Alarm) × (slice_get (y ∷ ys) n ≡ Some x) × (P x ≡ true)
    go true here zero e later = (y, refl, here)
    go true here (suc n) e later =
        let f : 0 ≡ suc n = cc in absurd (omega (arith, f))
    go false here zero e later = absurd (no_place (first_place P ys) e)
    go false here (suc n) e later = later n (place_below (first_place P ys) n e)

-- the alarm of a number
above_zero : (k : ℕ) → nat_eq (k + 1) 0 ≡ false
above_zero k = grind (arith, nat_tests)

alarm_at : (k : ℕ) (al : List Alarm) → alarm_of (k + 1) al ≡ slice_get al k
alarm_at k al =
    let same : k + 1 - 1 ≡ k = omega arith in
    ap (λ (b : Bool). cond b None (slice_get al (k + 1 - 1))) (above_zero k) ∙ ap (slice_get al) same

get_last : {A : Type 0} (xs : List A) (x : A) → slice_get (xs ++ x ∷ []) (length xs) ≡ Some x
get_last [] x = refl
get_last (y ∷ xs) x = get_last xs x

last_append : (es : List Event) (e : Event) → last_item (es ++ e ∷ []) ≡ Some e
last_append es e =
    let same : length (es ++ e ∷ []) - 1 ≡ length es = omega (arith, length-append es (e ∷ [])) in
    ap (slice_get (es ++ e ∷ [])) same ∙ get_last es e

get_changed : (f : Alarm → Alarm) (n : ℕ) (al : List Alarm) → slice_get (changed_at n f al) n ≡ option_map f (slice_get al n)
get_changed f n [] = refl
get_changed f zero (a ∷ al) = refl
get_changed f (suc n) (a ∷ al) = get_changed f n al

changed_there : (f : Alarm → Alarm) (number : ℕ) (al : List Alarm) → alarm_of number (changed_alarm number f al) ≡ option_map f (alarm_of number al)
changed_there f number al = go (nat_eq number 0)
  where
    go : (b : Bool) → cond b None (slice_get (changed_alarm number f al) (number - 1)) ≡ option_map f (cond b None (slice_get al (number - 1)))
    go true = refl
    go false = get_changed f (number - 1) al

-- the alarm of a rule that is in alarm
pub current_there : (rule n : ℕ) (al : List Alarm) → current rule al ≡ Some n → (a : Alarm) × (alarm_of n al ≡ Some a) × (a.rule ≡ rule)
current_there rule n al e = go (first_place (is_open rule) al) refl e
  where
    both : (a c : Bool) → (a && c) ≡ true → a ≡ true
    both true c f = refl
    both false c f = absurd cc

    go : (o : Option ℕ) → first_place (is_open rule) al ≡ o → option_map (λ place. place + 1) o ≡ Some n → (a : Alarm) × (alarm_of n al ≡ Some a) × (a.rule ≡ rule)
    go None is e = absurd cc
    go (Some k) is e =
        let same : k + 1 ≡ n = cc in
        let there = first_there (is_open rule) al k is in
        (there.0, ap (λ (m : ℕ). alarm_of m al) (sym same) ∙ alarm_at k al ∙ there.1, (Decides-eqb there.0.rule rule).0 (both (nat_eq there.0.rule rule) (not (is_some there.0.normal)) there.2))

-- an event that came
length-before : (es : List Event) → 0 < length es → length (events_before es) + 1 ≡ length es
length-before [] h = absurd (omega arith)
length-before (e ∷ []) h = refl
length-before (e ∷ f ∷ es) h = omega (arith, length-before (f ∷ es) (omega arith))

no_event : (s t : State) → t.events ≡ s.events → AddsEvent true s t → ⊥
no_event s t same adds =
    let n : length (events_before t.events) ≡ length s.events = ap (λ (x : State). length x.events) adds.1 in
    omega (arith, length-before t.events adds.0, n, ap (λ (es : List Event). length es) same)

numbered_there : (n : ℕ) (rs : List PointRule) (i : ℕ) → is_some (slice_get (numbered_from n rs) i) ≡ is_some (slice_get rs i)
numbered_there n [] i = refl
numbered_there n (r ∷ rs) zero = refl
numbered_there n (r ∷ rs) (suc i) = numbered_there (n + 1) rs i

newest : (plan : Plan) (rule : ℕ) (s : State) (b : Board) (number : ℕ) (w : What) (now : ℕ) (al : List Alarm) (a : Alarm) → alarm_of number al ≡ Some a → a.rule ≡ rule
    → is_some (slice_get plan.rules rule) ≡ true → IsNewest plan rule (with_board s (with_event b number w now al))
newest plan rule s b number w now al a there of known = record {
  event = record { number = number; what = w; at = now };
  alarm = a;
  last = last_append b.events _;
  there = there;
  of_rule = of;
  known = known;
}

-- a value
taken_there : (o : Option Rule) (value : Option Num) → TakenBy o value → is_some o ≡ true
taken_there None value h = absurd h
taken_there (Some r) value h = refl

turned_newest : (plan : Plan) (s : State) (b : Board) (rule now : ℕ) (v : Option Num) (o : Option ℕ) → current rule b.alarms ≡ o → b.events ≡ s.events → is_some (slice_get plan.rules rule) ≡ true
    → AddsEvent true s (with_board s (turn b rule now v o).0) → IsNewest plan rule (with_board s (turn b rule now v o).0)
turned_newest plan s b rule now (Some v) None e es known adds =
    let a : Alarm = fresh rule v (next_turn b now) in
    newest plan rule s b (length b.alarms + 1) what.Raised now (b.alarms ++ a ∷ []) a (alarm_at (length b.alarms) (b.alarms ++ a ∷ []) ∙ get_last b.alarms a) refl known
turned_newest plan s b rule now None (Some n) e es known adds =
    let f : Alarm → Alarm = ended (next_turn b now) in
    let at_n = current_there rule n b.alarms e in
    newest plan rule s b n what.Normal now (changed_alarm n f b.alarms) (f at_n.0) (changed_there f n b.alarms ∙ ap (option_map f) at_n.1) at_n.2 known
turned_newest plan s b rule now (Some v) (Some n) e es known adds = absurd (no_event s (with_board s b) es adds)
turned_newest plan s b rule now None None e es known adds = absurd (no_event s (with_board s b) es adds)

pub value_newest : (plan : Plan) (s : State) (b : Board) (rule : ℕ) (value : Option Num) (now : ℕ) → Takes (numbered_from 0 plan.rules) rule value → b.events ≡ s.events
    → AddsEvent true s (with_board s (on_value b rule value now).0) → IsNewest plan rule (with_board s (on_value b rule value now).0)
value_newest plan s b rule value now takes es adds =
    turned_newest plan s b rule now (outside_of (slice_get b.rules rule) value) (current rule b.alarms) refl es
    (sym (numbered_there 0 plan.rules rule) ∙ taken_there (slice_get (numbered_from 0 plan.rules) rule) value takes) adds

-- an acknowledgement
needs_there : (o : Option Rule) → needs_ack o ≡ true → is_some o ≡ true
needs_there None e = absurd cc
needs_there (Some r) e = refl

unacked_there : (rules : List Rule) (o : Option Alarm) → acked_if_needed rules o ≡ Some false → (a : Alarm) × (o ≡ Some a) × (needs_ack (slice_get rules a.rule) ≡ true)
unacked_there rules None e = absurd cc
unacked_there rules (Some a) e = go (needs_ack (slice_get rules a.rule)) refl e
  where
    go : (b : Bool) → needs_ack (slice_get rules a.rule) ≡ b → cond b (Some (is_acked a)) None ≡ Some false → (x : Alarm) × (Some a ≡ Some x) × (needs_ack (slice_get rules x.rule) ≡ true)
    go true is e = (a, refl, is)
    go false is e = absurd cc

acked_newest : (plan : Plan) (s : State) (b : Board) (number rule : ℕ) (user : Option (List ℕ)) (now : ℕ) (o : Option Bool) → acked_if_needed b.rules (alarm_of number b.alarms) ≡ o
    → b.rules ≡ numbered_from 0 plan.rules → ((a : Alarm) → alarm_of number b.alarms ≡ Some a → rule ≡ a.rule) → b.events ≡ s.events
    → AddsEvent true s (with_board s (answered b number user now o).0) → IsNewest plan rule (with_board s (answered b number user now o).0)
acked_newest plan s b number rule user now None e rules of es adds = absurd (no_event s (with_board s b) es adds)
acked_newest plan s b number rule user now (Some true) e rules of es adds = absurd (no_event s (with_board s b) es adds)
acked_newest plan s b number rule user now (Some false) e rules of es adds =
    let f : Alarm → Alarm = acked (next_turn b now) user in
    let at_n = unacked_there b.rules (alarm_of number b.alarms) e in
    let is : rule ≡ at_n.0.rule = of at_n.0 at_n.1 in
    newest plan rule s b number what.Acked now (changed_alarm number f b.alarms) (f at_n.0) (changed_there f number b.alarms ∙ ap (option_map f) at_n.1) (sym is)
    (ap (λ (i : ℕ). is_some (slice_get plan.rules i)) is ∙ sym (numbered_there 0 plan.rules at_n.0.rule)
    ∙ ap (λ (rs : List Rule). is_some (slice_get rs at_n.0.rule)) (sym rules) ∙ needs_there (slice_get b.rules at_n.0.rule) at_n.2)

pub ack_newest : (plan : Plan) (s : State) (b : Board) (number rule : ℕ) (user : Option (List ℕ)) (now : ℕ) → b.rules ≡ numbered_from 0 plan.rules
    → ((a : Alarm) → alarm_of number b.alarms ≡ Some a → rule ≡ a.rule) → b.events ≡ s.events
    → AddsEvent true s (with_board s (on_ack b number user now).0) → IsNewest plan rule (with_board s (on_ack b number user now).0)
ack_newest plan s b number rule user now rules of es adds =
    acked_newest plan s b number rule user now (acked_if_needed b.rules (alarm_of number b.alarms)) refl rules of es adds
