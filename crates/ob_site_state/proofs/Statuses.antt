-- The statuses of sources that a value or an acknowledgement leaves alone.
use Rattle.std.proofs.Common.{ℕ, ◌≡◌, zero, suc, ◌+◌, ◌-◌, Bool, true, false, cond, List, [], ◌∷◌, ◌++◌, filter, Option, Some, None, refl, sym, ap, ◌∙◌}
use Rattle.std.specs.Prelude.{slice_get, nat_eq}
use Rattle.ob_alarms.specs.declared.alarm.Alarm.{Alarm}
use Rattle.ob_alarms.specs.declared.rule.Num.{Num}
use Rattle.ob_alarms.specs.Lists.{changed_at}
use Rattle.ob_alarms.specs.States.{status_of}
use Rattle.ob_alarms.specs.Changes.{State as Board, alarm_of, fresh, ended, acked, next_turn, current, turn, outside_of, on_value, acked_if_needed, answered, on_ack}
use Rattle.ob_shown_laws.proofs.Leaving.{not_source, of_source, status_same}
use Rattle.ob_site_rules.specs.State.{numbered_from}
use Rattle.ob_site_rules.specs.declared.plan.PointRule.{PointRule}
use Rattle.ob_site_state.proofs.Newest.{current_there}

-- alarms of which none of a source is added or changed
filter_more : (P : Alarm → Bool) (xs : List Alarm) (x : Alarm) → P x ≡ false → filter P (xs ++ x ∷ []) ≡ filter P xs
filter_more P [] x e = ap (λ b. cond b (x ∷ []) []) e
filter_more P (y ∷ ys) x e = ap (λ l. cond (P y) (y ∷ l) l) (filter_more P ys x e)

filter_changed : (P : Alarm → Bool) (f : Alarm → Alarm) → ((x : Alarm) → P (f x) ≡ P x) → (xs : List Alarm) (n : ℕ) → ((x : Alarm) → slice_get xs n ≡ Some x → P x ≡ false)
    → filter P (changed_at n f xs) ≡ filter P xs
filter_changed P f keeps [] n off = refl
filter_changed P f keeps (x ∷ xs) zero off =
    ap (λ b. cond b (f x ∷ filter P xs) (filter P xs)) (keeps x ∙ off x refl)
    ∙ sym (ap (λ b. cond b (x ∷ filter P xs) (filter P xs)) (off x refl))
filter_changed P f keeps (x ∷ xs) (suc n) off = ap (λ l. cond (P x) (x ∷ l) l) (filter_changed P f keeps xs n off)

-- where a number has an alarm, it is the one at its place
number_there : {a x : Alarm} (b : Bool) (r : Option Alarm) → cond b None r ≡ Some a → r ≡ Some x → cond b None r ≡ Some x
number_there true r f g = absurd cc
number_there false r f g = g

-- the alarm that is in alarm is of its rule
open_of : (i n : ℕ) (al : List Alarm) → current i al ≡ Some n → (x : Alarm) → slice_get al (n - 1) ≡ Some x → x.rule ≡ i
open_of i n al e x f =
    let there = current_there i n al e in
    let same : there.0 ≡ x = some_alarm (sym there.1 ∙ number_there (nat_eq n 0) (slice_get al (n - 1)) there.1 f) in
    ap (λ (y : Alarm). y.rule) (sym same) ∙ there.2
  where
    some_alarm : {a b : Alarm} → Some a ≡ Some b → a ≡ b
    some_alarm e = cc

turned_same : (rs : List PointRule) (b : Board) (i j now : ℕ) (v : Option Num) (o : Option ℕ) → (j ≡ i → ⊥) → current i b.alarms ≡ o
    → filter (of_source (numbered_from 0 rs) j) b.alarms ≡ filter (of_source (numbered_from 0 rs) j) (turn b i now v o).0.alarms
turned_same rs b i j now (Some v) None other e =
    sym (filter_more (of_source (numbered_from 0 rs) j) b.alarms (fresh i v (next_turn b now)) (not_source rs i j (λ same. other (sym same))))
turned_same rs b i j now None None other e = refl
turned_same rs b i j now (Some v) (Some n) other e = refl
turned_same rs b i j now None (Some n) other e =
    sym (filter_changed (of_source (numbered_from 0 rs) j) (ended (next_turn b now)) (λ x. refl) b.alarms (n - 1)
    (λ x f. not_source rs x.rule j (λ same. other (sym same ∙ open_of i n b.alarms e x f))))

-- a value of the source of a rule
pub value_told : (rs : List PointRule) (b : Board) (rule : ℕ) (value : Option Num) (now j : ℕ) → (j ≡ rule → ⊥)
    → status_of (numbered_from 0 rs) b.alarms j ≡ status_of (numbered_from 0 rs) (on_value b rule value now).0.alarms j
value_told rs b rule value now j other =
    status_same (numbered_from 0 rs) b.alarms (on_value b rule value now).0.alarms j
    (turned_same rs b rule j now (outside_of (slice_get b.rules rule) value) (current rule b.alarms) other refl)

acked_same : (rs : List PointRule) (b : Board) (number now : ℕ) (user : Option (List ℕ)) (j : ℕ) → ((a : Alarm) → alarm_of number b.alarms ≡ Some a → a.rule ≡ j → ⊥)
    → (a : Option Alarm) → alarm_of number b.alarms ≡ a → (o : Option Bool) → acked_if_needed b.rules a ≡ o
    → filter (of_source (numbered_from 0 rs) j) b.alarms ≡ filter (of_source (numbered_from 0 rs) j) (answered b number user now o).0.alarms
acked_same rs b number now user j other a is None e = refl
acked_same rs b number now user j other a is (Some true) e = refl
acked_same rs b number now user j other None is (Some false) e = absurd cc
acked_same rs b number now user j other (Some a) is (Some false) e =
    sym (filter_changed (of_source (numbered_from 0 rs) j) (acked (next_turn b now) user) (λ x. refl) b.alarms (number - 1)
    (λ x f. not_source rs x.rule j (other x (number_there (nat_eq number 0) (slice_get b.alarms (number - 1)) is f))))

-- an acknowledgement of an alarm of a rule
pub ack_told : (rs : List PointRule) (b : Board) (number rule : ℕ) (user : Option (List ℕ)) (now j : ℕ) → ((a : Alarm) → alarm_of number b.alarms ≡ Some a → rule ≡ a.rule) → (j ≡ rule → ⊥)
    → status_of (numbered_from 0 rs) b.alarms j ≡ status_of (numbered_from 0 rs) (on_ack b number user now).0.alarms j
ack_told rs b number rule user now j of other =
    status_same (numbered_from 0 rs) b.alarms (on_ack b number user now).0.alarms j
    (acked_same rs b number now user j (λ a f same. other (sym same ∙ sym (of a f))) (alarm_of number b.alarms) refl (acked_if_needed b.rules (alarm_of number b.alarms)) refl)
