-- An event of an alarm stays as it was shown.
use Rattle.std.proofs.Common.{arith, ℕ, ◌≡◌, ◌+◌, ◌-◌, ◌<◌, ◌≤◌, Bool, true, false, cond, List, [], ◌∷◌, ◌++◌, length, take, drop, Option, Some, None, refl, sym, ap, ◌∙◌, ap₂, subst, append-nil}
use Rattle.std.specs.Prelude.{zero, suc, reverse, slice_get, nat_eq, unwrap_or, not, is_some}
use Rattle.ob_object.specs.Object.{Object}
use Rattle.ob_alarms.specs.Changes.{State as Board, alarm_of, before, turn, on_value, outside_of, current, on_ack, answered, acked_if_needed, raise, end, acknowledge, ended, acked, next_turn}
use Rattle.ob_alarms.specs.AlarmObjects.{shown_alarm, shown_event, object_in, before_all, alarms_after, event_obj}
use Rattle.ob_alarms.specs.Lists.{changed_at}
use Rattle.ob_alarms.specs.Soundness.{At}
use Rattle.ob_alarms.specs.States.{is_in_alarm, needs_ack}
use Rattle.ob_alarms.specs.declared.alarm.Alarm.{Alarm}
use Rattle.ob_alarms.specs.declared.alarm.Event.{Event}
use Rattle.ob_alarms.specs.declared.alarm.What.TheVariants as what
use Rattle.ob_alarms.specs.declared.rule.Num.{Num}
use Rattle.ob_alarms.specs.declared.rule.Rule.{Rule}
use Rattle.ob_alarms.proofs.Told.{newest_first, open_at, length_more}
use Rattle.ob_alarms.proofs.Numbers.{known}
use Rattle.ob_site_rules.specs.Entries.{empty_object, event_object, first_events, event_objects}

-- one event more, which can be taken back
pub record IsNext (b u : Board) : Type 0 where
  pub event : Event
  pub root : u.root ≡ b.root
  pub rules : u.rules ≡ b.rules
  pub events : u.events ≡ b.events ++ event ∷ []
  pub back : before event u.alarms ≡ b.alarms

get_front : {A : Type 0} (xs : List A) (y : A) (n : ℕ) → n < length xs → slice_get (xs ++ y ∷ []) n ≡ slice_get xs n
get_front [] y n lt = absurd (omega (arith, lt))
get_front (x ∷ xs) y zero lt = refl
get_front (x ∷ xs) y (suc n) lt = get_front xs y n (omega (arith, lt))

drop_front : {A : Type 0} (xs : List A) (y : A) (n : ℕ) → n ≤ length xs → drop n (xs ++ y ∷ []) ≡ drop n xs ++ y ∷ []
drop_front xs y zero le = refl
drop_front [] y (suc n) le = absurd (omega (arith, le))
drop_front (x ∷ xs) y (suc n) le = drop_front xs y n (omega (arith, le))

take_front : {A : Type 0} (xs : List A) (y : A) (n : ℕ) → n ≡ length xs → take n (xs ++ y ∷ []) ≡ xs
take_front [] y zero e = refl
take_front [] y (suc n) e = absurd (omega (arith, e))
take_front (x ∷ xs) y zero e = absurd (omega (arith, e))
take_front (x ∷ xs) y (suc n) e = ap (λ l. x ∷ l) (take_front xs y n (omega (arith, e)))

-- a change at a place that is taken back there
undone_at : {A : Type 0} (f g : A → A) (xs : List A) (n : ℕ) → ((x : A) → slice_get xs n ≡ Some x → g (f x) ≡ x) → changed_at n g (changed_at n f xs) ≡ xs
undone_at f g [] zero h = refl
undone_at f g [] (suc n) h = refl
undone_at f g (x ∷ xs) zero h = ap (λ y. y ∷ xs) (h x refl)
undone_at f g (x ∷ xs) (suc n) h = ap (λ l. x ∷ l) (undone_at f g xs n h)

shown_same : (b u : Board) → u.root ≡ b.root → u.rules ≡ b.rules → (number : ℕ) (o : Option Alarm) → shown_alarm u number o ≡ shown_alarm b number o
shown_same b u root rules number None = refl
shown_same b u root rules number (Some a) = ap₂ (λ (r : List ℕ) (l : List Rule). object_in r (slice_get l a.rule) number a) root rules

alarms_same : (b u : Board) (k : IsNext b u) (n : ℕ) → n < length b.events → alarms_after n u ≡ alarms_after n b
alarms_same b u k n lt =
    ap (λ (l : List Event). before_all (reverse (drop (n + 1) l)) u.alarms) k.events
    ∙ ap (λ (l : List Event). before_all (reverse l) u.alarms) (drop_front b.events k.event (n + 1) (omega (arith, lt)))
    ∙ ap (λ (l : List Event). before_all l u.alarms) (newest_first (drop (n + 1) b.events) k.event)
    ∙ ap (before_all (reverse (drop (n + 1) b.events))) k.back

event_same : (b u : Board) (k : IsNext b u) (n : ℕ) → n < length b.events → (o : Option Event) → shown_event u n o ≡ shown_event b n o
event_same b u k n lt None = refl
event_same b u k n lt (Some e) =
    ap (λ (l : List Alarm). shown_alarm u e.number (alarm_of e.number l)) (alarms_same b u k n lt)
    ∙ shown_same b u k.root k.rules e.number (alarm_of e.number (alarms_after n b))

-- an older event is shown as before
event_stays : (b u : Board) (k : IsNext b u) (n : ℕ) → n < length b.events → event_obj u n ≡ event_obj b n
event_stays b u k n lt =
    ap (shown_event u n) (ap (λ (l : List Event). slice_get l n) k.events ∙ get_front b.events k.event n lt)
    ∙ event_same b u k n lt (slice_get b.events n)

first_stay : (b u : Board) (k : IsNext b u) (n : ℕ) → n ≤ length b.events → first_events u n ≡ first_events b n
first_stay b u k zero le = refl
first_stay b u k (suc n) le =
    ap₂ (λ (l : List Object) (o : Option Object). l ++ unwrap_or o empty_object ∷ []) (first_stay b u k n (omega (arith, le))) (event_stays b u k n (omega (arith, le)))

-- the events with one more behind them
pub next_event : (b u : Board) → IsNext b u → event_objects u ≡ event_objects b ++ event_object u (length b.events) ∷ []
next_event b u k =
    let len : length u.events ≡ suc (length b.events) = omega (arith, ap length k.events, length_more b.events k.event) in
    ap (first_events u) len
    ∙ ap (λ (l : List Object). l ++ event_object u (length b.events) ∷ []) (first_stay b u k (length b.events) (omega arith))

pub next_events : (b u : Board) → IsNext b u → (more : List Object) × (event_objects u ≡ event_objects b ++ more)
next_events b u k = (event_object u (length b.events) ∷ [], next_event b u k)

-- a board with the alarms and events of another
abbrev pub taken : Board → Board → Board
taken b u = record b { alarms = u.alarms; events = u.events }

raised : (b : Board) (rule : ℕ) (value : Num) (now : ℕ) → IsNext b (taken b (raise b rule value now))
raised b rule value now = record {
  event = record { number = length b.alarms + 1; what = what.Raised; at = now };
  root = refl;
  rules = refl;
  events = refl;
  back = take_front b.alarms _ (length b.alarms + 1 - 1) (omega arith);
}

none_is : {A : Type 0} (o : Option A) → not (is_some o) ≡ true → None ≡ o
none_is None h = refl
none_is (Some x) h = absurd cc

none_of : {A : Type 0} (o : Option A) → is_some o ≡ false → None ≡ o
none_of None h = refl
none_of (Some x) h = absurd cc

-- back to normal, and back in alarm
returned : (b : Board) (rule number now : ℕ) → current rule b.alarms ≡ Some number → IsNext b (taken b (end b number now))
returned b rule number now h =
    let at : At is_in_alarm (slice_get b.alarms (number - 1)) = (known is_in_alarm b.alarms number (open_at rule b.alarms number h)).1 in
    record {
      event = record { number = number; what = what.Normal; at = now };
      root = refl;
      rules = refl;
      events = refl;
      back = undone_at (ended (next_turn b now)) (λ (a : Alarm). record a { normal = None }) b.alarms (number - 1)
          (λ x e. let in_alarm : is_in_alarm x ≡ true = subst (At is_in_alarm) e at in
          ap (λ o. let a : Alarm = record x { normal = o } in a) (none_is x.normal in_alarm));
    }

pub given_false : (needs b : Bool) → cond needs (Some b) None ≡ Some false → b ≡ false
given_false true b h = cc
given_false false b h = absurd cc

lacks : (rules : List Rule) (x : Alarm) (none needs : Bool) → needs_ack (slice_get rules x.rule) ≡ needs → acked_if_needed rules (cond none None (Some x)) ≡ Some false → is_some x.ack ≡ false
lacks rules x true needs e h = absurd cc
lacks rules x false needs e h = given_false (needs_ack (slice_get rules x.rule)) (is_some x.ack) h

-- acknowledged, and without it again
acknowledged : (b : Board) (number : ℕ) (user : Option (List ℕ)) (now : ℕ) → acked_if_needed b.rules (alarm_of number b.alarms) ≡ Some false → IsNext b (taken b (acknowledge b number user now))
acknowledged b number user now h = record {
  event = record { number = number; what = what.Acked; at = now };
  root = refl;
  rules = refl;
  events = refl;
  back = undone_at (acked (next_turn b now) user) (λ (a : Alarm). record a { ack = None }) b.alarms (number - 1)
      (λ x e. ap (λ o. let a : Alarm = record x { ack = o } in a) (none_of x.ack (lacks b.rules x (nat_eq number 0) (needs_ack (slice_get b.rules x.rule)) refl (found_in x e))));
}
  where
    found_in : (x : Alarm) → slice_get b.alarms (number - 1) ≡ Some x → acked_if_needed b.rules (cond (nat_eq number 0) None (Some x)) ≡ Some false
    found_in x e = ap (λ (o : Option Alarm). acked_if_needed b.rules (cond (nat_eq number 0) None o)) (sym e) ∙ h

-- what a value makes of the events
pub on_value_grows : (b : Board) (rule : ℕ) (value : Option Num) (now : ℕ) → (more : List Object) × (event_objects (taken b (on_value b rule value now).0) ≡ event_objects b ++ more)
on_value_grows b rule value now = go (outside_of (slice_get b.rules rule) value) (current rule b.alarms) refl
  where
    go : (v : Option Num) (o : Option ℕ) → current rule b.alarms ≡ o → (more : List Object) × (event_objects (taken b (turn b rule now v o).0) ≡ event_objects b ++ more)
    go (Some v) None h = next_events b _ (raised b rule v now)
    go None (Some number) h = next_events b _ (returned b rule number now h)
    go (Some v) (Some number) h = ([], sym (append-nil (event_objects b)))
    go None None h = ([], sym (append-nil (event_objects b)))

-- what an acknowledgement makes of the events
pub on_ack_grows : (b : Board) (number : ℕ) (user : Option (List ℕ)) (now : ℕ) → (more : List Object) × (event_objects (taken b (on_ack b number user now).0) ≡ event_objects b ++ more)
on_ack_grows b number user now = go (acked_if_needed b.rules (alarm_of number b.alarms)) refl
  where
    go : (o : Option Bool) → acked_if_needed b.rules (alarm_of number b.alarms) ≡ o → (more : List Object) × (event_objects (taken b (answered b number user now o).0) ≡ event_objects b ++ more)
    go None h = ([], sym (append-nil (event_objects b)))
    go (Some true) h = ([], sym (append-nil (event_objects b)))
    go (Some false) h = next_events b _ (acknowledged b number user now h)
