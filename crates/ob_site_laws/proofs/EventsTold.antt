-- The alarms tell their events, also after a value and after an acknowledgement.
use Rattle.std.proofs.Common.{arith, ℕ, ◌≡◌, ◌+◌, ◌-◌, ◌<◌, ◌≤◌, zero, suc, inl, inr, Bool, true, false, not, cond, List, [], ◌∷◌, ◌++◌, length, reverse, Option, Some, None, refl, sym, ap, subst}
use Rattle.std.specs.Prelude.{nat_eq, slice_get}
use Rattle.std.specs.List.{AllByRecursion}
use Rattle.std.proofs.lemmas.Bool.Decides.{eqb_tells}
use Rattle.std.proofs.lemmas.List.{length-reverse}
use Rattle.ob_alarms.specs.Changes.{State as Board, alarm_of, is_open, turn, on_value, outside_of, current, on_ack, answered, acked_if_needed, raise, end, acknowledge, fresh, ended, acked, next_turn}
use Rattle.ob_alarms.specs.Lists.{first_place, changed_at}
use Rattle.ob_alarms.specs.Soundness.{At, AtMostOne, EventsShowAlarms}
use Rattle.ob_alarms.specs.States.{is_in_alarm, is_acked, needs_ack}
use Rattle.ob_alarms.specs.declared.alarm.Alarm.{Alarm}
use Rattle.ob_alarms.specs.declared.alarm.Event.{Event}
use Rattle.ob_alarms.specs.declared.alarm.Turn.{Turn}
use Rattle.ob_alarms.specs.declared.rule.Num.{Num}
use Rattle.ob_alarms.specs.declared.rule.Rule.{Rule}
use Rattle.ob_alarms.proofs.Counting.{get_within, count-append, count-changed, count_none, same_count_changed}
use Rattle.ob_alarms.proofs.Numbers.{known}
use Rattle.ob_alarms.proofs.Told.{told_raised, told_ended, told_acked, newest_first, found, no_place, open_at}
use Rattle.ob_alarms.proofs.Tracks.{other_open, and_false}
use Rattle.ob_site_rules.specs.declared.plan.Plan.{Plan}
use Rattle.ob_site_rules.specs.State.{State, board}
use Rattle.ob_site_laws.specs.SiteLaws.{TellsEvents}
use Rattle.ob_site_laws.proofs.Boards.{taken, given_false}

pub all_more : {A : Type 0} (P : A → Type 0) (xs : List A) (y : A) → AllByRecursion P xs → P y → AllByRecursion P (xs ++ y ∷ [])
all_more P [] y all one = (one, tt)
all_more P (x ∷ xs) y all one = (all.0, all_more P xs y all.1 one)

pub all_changed : {A : Type 0} (P : A → Type 0) (n : ℕ) (f : A → A) → ((x : A) → P x → P (f x)) → (xs : List A) → AllByRecursion P xs → AllByRecursion P (changed_at n f xs)
all_changed P n f keeps [] all = tt
all_changed P zero f keeps (x ∷ xs) all = (keeps x all.0, all.1)
all_changed P (suc n) f keeps (x ∷ xs) all = (all.0, all_changed P n f keeps xs all.1)

abbrev IsOf : List Rule → Alarm → Type 0
IsOf rules a = a.rule < length rules

none_counts : (b : Bool) → b ≡ false → cond {A = ℕ} b 1 0 ≡ 0
none_counts b e = ap (λ (b : Bool). cond {A = ℕ} b 1 0) e

one_counts : (b : Bool) → cond {A = ℕ} b 1 0 ≤ 1
one_counts true = omega arith
one_counts false = omega arith

-- a rule of which none is in alarm has an alarm more
one_raised : (rules rule : ℕ) (value : Num) (turn : Turn) (alarms : List Alarm) → current rule alarms ≡ None → AtMostOne rules alarms → AtMostOne rules (alarms ++ fresh rule value turn ∷ [])
one_raised rules rule value turn alarms none one j lt =
    let y : Alarm = fresh rule value turn in
    let more = count-append (is_open j) alarms (y ∷ []) in
    elim (eqb_tells rule j) [
      | inl t ↦
          let before = count_none (is_open j) alarms (no_place (first_place (is_open j) alarms) (subst (λ (i : ℕ). current i alarms ≡ None) t.1 none)) in
          omega (arith, more, before, one_counts (is_open j y))
      | inr f ↦ omega (arith, more, one j lt, none_counts (is_open j y) (other_open y j f.1))
    ]

raised_told : (b : Board) (rule : ℕ) (value : Num) (now : ℕ) → rule < length b.rules → current rule b.alarms ≡ None → TellsEvents b → TellsEvents (taken b (raise b rule value now))
raised_told b rule value now lt none h = record {
  of_rules = all_more (IsOf b.rules) b.alarms (fresh rule value (next_turn b now)) h.of_rules lt;
  told = subst (λ (es : List Event). EventsShowAlarms (length b.rules) es (b.alarms ++ fresh rule value (next_turn b now) ∷ [])) (sym (newest_first b.events _))
      (told_raised (length b.rules) (reverse b.events) b.alarms rule value now (length b.events) (length b.alarms + 1) (omega arith) (omega arith) (sym (length-reverse b.events)) h.told h.one);
  one = one_raised (length b.rules) rule value (next_turn b now) b.alarms none h.one;
}

-- an alarm ends, or changes in what doesn't matter to that
one_ended : (rules n : ℕ) (x : Alarm) (turn : Turn) (alarms : List Alarm) → slice_get alarms n ≡ Some x → AtMostOne rules alarms → AtMostOne rules (changed_at n (ended turn) alarms)
one_ended rules n x turn alarms at one j lt =
    let less = count-changed (is_open j) n (ended turn) alarms x at in
    let out : is_open j (ended turn x) ≡ false = and_false (nat_eq x.rule j) false refl in
    omega (arith, less, one j lt, none_counts (is_open j (ended turn x)) out)

ended_told : (b : Board) (rule number now : ℕ) → current rule b.alarms ≡ Some number → TellsEvents b → TellsEvents (taken b (end b number now))
ended_told b rule number now is h =
    let at : (1 ≤ number) × At is_in_alarm (slice_get b.alarms (number - 1)) = known is_in_alarm b.alarms number (open_at rule b.alarms number is) in
    let x = found is_in_alarm b.alarms (number - 1) at.1 in
    record {
      of_rules = all_changed (IsOf b.rules) (number - 1) (ended (next_turn b now)) (λ a of. of) b.alarms h.of_rules;
      told = subst (λ (es : List Event). EventsShowAlarms (length b.rules) es (changed_at (number - 1) (ended (next_turn b now)) b.alarms)) (sym (newest_first b.events _))
          (told_ended (length b.rules) (reverse b.events) b.alarms (number - 1) x.0 now (length b.events) number at.0 refl (sym (length-reverse b.events)) h.told h.one x.1 x.2);
      one = one_ended (length b.rules) (number - 1) x.0 (next_turn b now) b.alarms x.1 h.one;
    }

unacked_at : (rules : List Rule) (o : Option Alarm) → acked_if_needed rules o ≡ Some false → At (λ a. not (is_acked a)) o
unacked_at rules None h = absurd cc
unacked_at rules (Some a) h = ap not (given_false (needs_ack (slice_get rules a.rule)) (is_acked a) h)

acked_told : (b : Board) (number : ℕ) (user : Option (List ℕ)) (now : ℕ) → acked_if_needed b.rules (alarm_of number b.alarms) ≡ Some false → TellsEvents b → TellsEvents (taken b (acknowledge b number user now))
acked_told b number user now is h =
    let at : (1 ≤ number) × At (λ a. not (is_acked a)) (slice_get b.alarms (number - 1)) = known (λ a. not (is_acked a)) b.alarms number (unacked_at b.rules (alarm_of number b.alarms) is) in
    let x = found (λ a. not (is_acked a)) b.alarms (number - 1) at.1 in
    record {
      of_rules = all_changed (IsOf b.rules) (number - 1) (acked (next_turn b now) user) (λ a of. of) b.alarms h.of_rules;
      told = subst (λ (es : List Event). EventsShowAlarms (length b.rules) es (changed_at (number - 1) (acked (next_turn b now) user) b.alarms)) (sym (newest_first b.events _))
          (told_acked (length b.rules) (reverse b.events) b.alarms (number - 1) x.0 user now (length b.events) number at.0 refl (sym (length-reverse b.events)) h.told h.one x.1 x.2);
      one = λ j lt. subst (λ (n : ℕ). n ≤ 1) (sym (same_count_changed (is_open j) (number - 1) (acked (next_turn b now) user) b.alarms x.0 x.1 refl)) (h.one j lt);
    }

-- a value outside the limits of a rule: there is that rule
rule_there : (rules : List Rule) (rule : ℕ) (value : Option Num) (v : Num) (o : Option Rule) → slice_get rules rule ≡ o → outside_of o value ≡ Some v → rule < length rules
rule_there rules rule value v None e is = absurd cc
rule_there rules rule value v (Some r) e is = get_within rules rule r e

pub on_value_told : (b : Board) (rule : ℕ) (value : Option Num) (now : ℕ) → TellsEvents b → TellsEvents (taken b (on_value b rule value now).0)
on_value_told b rule value now h = go (outside_of (slice_get b.rules rule) value) refl (current rule b.alarms) refl
  where
    go : (v : Option Num) → outside_of (slice_get b.rules rule) value ≡ v → (o : Option ℕ) → current rule b.alarms ≡ o → TellsEvents (taken b (turn b rule now v o).0)
    go (Some v) out None none = raised_told b rule v now (rule_there b.rules rule value v (slice_get b.rules rule) refl out) none h
    go None out (Some number) is = ended_told b rule number now is h
    go (Some v) out (Some number) is = h
    go None out None none = h

pub on_ack_told : (b : Board) (number : ℕ) (user : Option (List ℕ)) (now : ℕ) → TellsEvents b → TellsEvents (taken b (on_ack b number user now).0)
on_ack_told b number user now h = go (acked_if_needed b.rules (alarm_of number b.alarms)) refl
  where
    go : (o : Option Bool) → acked_if_needed b.rules (alarm_of number b.alarms) ≡ o → TellsEvents (taken b (answered b number user now o).0)
    go None is = h
    go (Some true) is = h
    go (Some false) is = acked_told b number user now is h

-- where nothing has happened yet there is nothing to tell
pub nothing_told : (plan : Plan) (s : State) → s.alarms ≡ [] → s.events ≡ [] → TellsEvents (board plan s)
nothing_told plan s alarms events =
    subst (λ (these : List Alarm). TellsEvents (record (board plan s) { alarms = these })) (sym alarms)
    (subst (λ (es : List Event). TellsEvents (record (board plan s) { alarms = []; events = es })) (sym events)
    (record { of_rules = tt; told = refl; one = λ j lt. omega arith }))
