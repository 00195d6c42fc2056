-- Alarm events that are taken back.
use Rattle.std.proofs.Common.{◌≡◌, ℕ, zero, suc, ◌+◌, ◌-◌, ◌<◌, Bool, true, false, not, cond, List, [], ◌∷◌, ◌++◌, length, take, Option, Some, None, refl, sym, ap, ◌∙◌, subst, arith, length-append}
use Rattle.std.specs.Prelude.{slice_get, is_some, nat_eq}
use Rattle.std.proofs.Math.Seq.{take-append_seam}
use Rattle.ob_values.proofs.Bools.{not_true}
use Rattle.ob_alarms.specs.Changes.{State as Board, alarm_of, changed_alarm, fresh, ended, acked, next_turn, with_event, raise, end, acknowledge, current, turn, outside_of, on_value, acked_if_needed, answered, on_ack, before, before_what, IsUndone}
use Rattle.ob_alarms.specs.Lists.{changed_at}
use Rattle.ob_alarms.specs.States.{is_in_alarm, is_acked, needs_ack}
use Rattle.ob_alarms.specs.Soundness.{At}
use Rattle.ob_alarms.specs.declared.alarm.Alarm.{Alarm}
use Rattle.ob_alarms.specs.declared.alarm.Turn.{Turn}
use Rattle.ob_alarms.specs.declared.alarm.Ack.{Ack}
use Rattle.ob_alarms.specs.declared.alarm.Event.{Event}
use Rattle.ob_alarms.specs.declared.alarm.What.{What}
use Rattle.ob_alarms.specs.declared.alarm.What.TheVariants as what
use Rattle.ob_alarms.specs.declared.rule.Rule.{Rule}
use Rattle.ob_alarms.specs.declared.rule.Num.{Num}
use Rattle.ob_alarms.specs.declared.board.Turned.{Turned}
use Rattle.ob_alarms.specs.declared.board.Turned.TheVariants as turned
use Rattle.ob_alarms.specs.declared.board.AckResult.{AckResult}
use Rattle.ob_alarms.specs.declared.board.AckResult.TheVariants as answer
use Rattle.ob_alarms.proofs.Told.{open_at}
use Rattle.ob_site_rules.specs.Build.{Path}
use Rattle.ob_site_rules.specs.declared.plan.Plan.{Plan}
use Rattle.ob_site_rules.specs.State.{State, numbered_from, board, with_board}
use Rattle.ob_site_state.specs.Changes.{alarms_before, events_before, without_event, AddsEvent, HasEvents, is_turn, is_done}

pub alarms_before-append : (es : List Event) (e : Event) (al : List Alarm) → alarms_before (es ++ e ∷ []) al ≡ before e al
alarms_before-append [] e al = refl
alarms_before-append (f ∷ []) e al = refl
alarms_before-append (f ∷ g ∷ es) e al = alarms_before-append (g ∷ es) e al

pub events_before-append : (es : List Event) (e : Event) → events_before (es ++ e ∷ []) ≡ es
events_before-append [] e = refl
events_before-append (f ∷ []) e = refl
events_before-append (f ∷ g ∷ es) e = ap (λ (l : List Event). f ∷ l) (events_before-append (g ∷ es) e)

-- alarms of which one, told by its place, is changed and changed back
back_at : (f g : Alarm → Alarm) (n : ℕ) (al : List Alarm) → ((a : Alarm) → slice_get al n ≡ Some a → g (f a) ≡ a) → changed_at n g (changed_at n f al) ≡ al
back_at f g n [] back = refl
back_at f g zero (a ∷ al) back = ap (λ (x : Alarm). x ∷ al) (back a refl)
back_at f g (suc n) (a ∷ al) back = ap (λ (l : List Alarm). a ∷ l) (back_at f g n al back)

-- the event of a board is taken back: its alarms are those before, and its events
pub record IsBack (b c : Board) : Type 0 where
  pub some : 0 < length c.events
  pub alarms : alarms_before c.events c.alarms ≡ b.alarms
  pub events : events_before c.events ≡ b.events

some_event : (es : List Event) (e : Event) → 0 < length (es ++ e ∷ [])
some_event es e = omega (arith, length-append es (e ∷ []))

back_event : (b : Board) (number : ℕ) (w : What) (now : ℕ) (al : List Alarm) → before_what w (number - 1) al ≡ b.alarms → IsBack b (with_event b number w now al)
back_event b number w now al e = record {
  some = some_event b.events _;
  alarms = alarms_before-append b.events _ al ∙ e;
  events = events_before-append b.events _;
}

raised_back : (b : Board) (rule : ℕ) (value : Num) (now : ℕ) → IsBack b (raise b rule value now)
raised_back b rule value now =
    let a : Alarm = fresh rule value (next_turn b now) in
    back_event b (length b.alarms + 1) what.Raised now (b.alarms ++ a ∷ [])
    (ap (λ n. take n (b.alarms ++ a ∷ [])) (omega arith) ∙ take-append_seam b.alarms (a ∷ []))

normal_none : (a : Alarm) (t : Turn) → is_in_alarm a ≡ true → (let x : Alarm = record (ended t a) { normal = None } in x) ≡ a
normal_none a t h = go a.normal refl h
  where
    go : (o : Option Turn) → a.normal ≡ o → not (is_some o) ≡ true → (let x : Alarm = record (ended t a) { normal = None } in x) ≡ a
    go None e h = ap (λ (o : Option Turn). let x : Alarm = record a { normal = o } in x) (sym e)
    go (Some u) e h = absurd cc

ack_none : (a : Alarm) (t : Turn) (user : Option (List ℕ)) → is_acked a ≡ false → (let x : Alarm = record (acked t user a) { ack = None } in x) ≡ a
ack_none a t user h = go a.ack refl h
  where
    go : (o : Option Ack) → a.ack ≡ o → is_some o ≡ false → (let x : Alarm = record (acked t user a) { ack = None } in x) ≡ a
    go None e h = ap (λ (o : Option Ack). let x : Alarm = record a { ack = o } in x) (sym e)
    go (Some u) e h = absurd cc

-- what holds of the alarm of a number holds of the one at its place
at_place : (p : Alarm → Bool) (al : List Alarm) (number : ℕ) → At p (alarm_of number al) → (a : Alarm) → slice_get al (number - 1) ≡ Some a → p a ≡ true
at_place p al number at a e = go (nat_eq number 0) at
  where
    go : (b : Bool) → At p (cond b None (slice_get al (number - 1))) → p a ≡ true
    go true at = absurd at
    go false at = subst (λ (o : Option Alarm). At p o) e at

ended_back : (b : Board) (rule number now : ℕ) → current rule b.alarms ≡ Some number → IsBack b (end b number now)
ended_back b rule number now at =
    back_event b number what.Normal now (changed_alarm number (ended (next_turn b now)) b.alarms)
    (back_at (ended (next_turn b now)) (λ a. record a { normal = None }) (number - 1) b.alarms
    (λ a e. normal_none a (next_turn b now) (at_place is_in_alarm b.alarms number (open_at rule b.alarms number at) a e)))

turned_nothing : (b c : Board) (rule now : ℕ) (v : Option Num) (w : Option ℕ) → (let x : Board × Turned = (c, turned.Nothing) in x) ≡ turn b rule now v w → c ≡ b
turned_nothing b c rule now (Some value) None e = let f : turned.Nothing ≡ turned.Raised (length b.alarms + 1) = ap (λ (x : Board × Turned). x.1) e in absurd cc
turned_nothing b c rule now None (Some number) e = let f : turned.Nothing ≡ turned.Normal number = ap (λ (x : Board × Turned). x.1) e in absurd cc
turned_nothing b c rule now (Some value) (Some number) e = ap (λ (x : Board × Turned). x.0) e
turned_nothing b c rule now None None e = ap (λ (x : Board × Turned). x.0) e

-- where a value did nothing the board is as it was
pub value_nothing : (b c : Board) (rule now : ℕ) (value : Option Num) → (let x : Board × Turned = (c, turned.Nothing) in x) ≡ on_value b rule value now → c ≡ b
value_nothing b c rule now value e = turned_nothing b c rule now (outside_of (slice_get b.rules rule) value) (current rule b.alarms) e

turned_raised : (b c : Board) (rule now : ℕ) (v : Option Num) (w : Option ℕ) (n : ℕ) → (let x : Board × Turned = (c, turned.Raised n) in x) ≡ turn b rule now v w → IsBack b c
turned_raised b c rule now (Some value) None n e = subst (IsBack b) (sym (ap (λ (x : Board × Turned). x.0) e)) (raised_back b rule value now)
turned_raised b c rule now None (Some number) n e = let f : turned.Raised n ≡ turned.Normal number = ap (λ (x : Board × Turned). x.1) e in absurd cc
turned_raised b c rule now (Some value) (Some number) n e = let f : turned.Raised n ≡ turned.Nothing = ap (λ (x : Board × Turned). x.1) e in absurd cc
turned_raised b c rule now None None n e = let f : turned.Raised n ≡ turned.Nothing = ap (λ (x : Board × Turned). x.1) e in absurd cc

-- an alarm that a value raised is taken back
pub value_raised : (b c : Board) (rule now : ℕ) (value : Option Num) (n : ℕ) → (let x : Board × Turned = (c, turned.Raised n) in x) ≡ on_value b rule value now → IsBack b c
value_raised b c rule now value n e = turned_raised b c rule now (outside_of (slice_get b.rules rule) value) (current rule b.alarms) n e

turned_normal : (b c : Board) (rule now : ℕ) (v : Option Num) (w : Option ℕ) (n : ℕ) → current rule b.alarms ≡ w → (let x : Board × Turned = (c, turned.Normal n) in x) ≡ turn b rule now v w → IsBack b c
turned_normal b c rule now (Some value) None n at e = let f : turned.Normal n ≡ turned.Raised (length b.alarms + 1) = ap (λ (x : Board × Turned). x.1) e in absurd cc
turned_normal b c rule now None (Some number) n at e = subst (IsBack b) (sym (ap (λ (x : Board × Turned). x.0) e)) (ended_back b rule number now at)
turned_normal b c rule now (Some value) (Some number) n at e = let f : turned.Normal n ≡ turned.Nothing = ap (λ (x : Board × Turned). x.1) e in absurd cc
turned_normal b c rule now None None n at e = let f : turned.Normal n ≡ turned.Nothing = ap (λ (x : Board × Turned). x.1) e in absurd cc

-- so is the end of one
pub value_normal : (b c : Board) (rule now : ℕ) (value : Option Num) (n : ℕ) → (let x : Board × Turned = (c, turned.Normal n) in x) ≡ on_value b rule value now → IsBack b c
value_normal b c rule now value n e = turned_normal b c rule now (outside_of (slice_get b.rules rule) value) (current rule b.alarms) n refl e

unacked_at : (rules : List Rule) (al : List Alarm) (number : ℕ) → acked_if_needed rules (alarm_of number al) ≡ Some false → At (λ a. not (is_acked a)) (alarm_of number al)
unacked_at rules al number e = go (alarm_of number al) e
  where
    from : (a : Alarm) (b : Bool) → cond b (Some (is_acked a)) None ≡ Some false → not (is_acked a) ≡ true
    from a true e = let f : is_acked a ≡ false = cc in ap not f
    from a false e = absurd cc

    go : (o : Option Alarm) → acked_if_needed rules o ≡ Some false → At (λ a. not (is_acked a)) o
    go None e = absurd cc
    go (Some a) e = from a (needs_ack (slice_get rules a.rule)) e

acked_back : (b : Board) (number : ℕ) (user : Option (List ℕ)) (now : ℕ) → acked_if_needed b.rules (alarm_of number b.alarms) ≡ Some false → IsBack b (acknowledge b number user now)
acked_back b number user now at =
    back_event b number what.Acked now (changed_alarm number (acked (next_turn b now) user) b.alarms)
    (back_at (acked (next_turn b now) user) (λ a. record a { ack = None }) (number - 1) b.alarms
    (λ a e. ack_none a (next_turn b now) user (not_true (is_acked a) (at_place (λ x. not (is_acked x)) b.alarms number (unacked_at b.rules b.alarms number at) a e))))

answered_done : (b c : Board) (number : ℕ) (user : Option (List ℕ)) (now : ℕ) (o : Option Bool) → acked_if_needed b.rules (alarm_of number b.alarms) ≡ o → (let x : Board × AckResult = (c, answer.Done) in x) ≡ answered b number user now o → IsBack b c
answered_done b c number user now None at e = let f : answer.Done ≡ answer.NoSuch user = ap (λ (x : Board × AckResult). x.1) e in absurd cc
answered_done b c number user now (Some true) at e = let f : answer.Done ≡ answer.Already user = ap (λ (x : Board × AckResult). x.1) e in absurd cc
answered_done b c number user now (Some false) at e = subst (IsBack b) (sym (ap (λ (x : Board × AckResult). x.0) e)) (acked_back b number user now at)

-- an acknowledgement is taken back
pub ack_done : (b c : Board) (number : ℕ) (user : Option (List ℕ)) (now : ℕ) → (let x : Board × AckResult = (c, answer.Done) in x) ≡ on_ack b number user now → IsBack b c
ack_done b c number user now e = answered_done b c number user now (acked_if_needed b.rules (alarm_of number b.alarms)) refl e

answered_not : (b c : Board) (number : ℕ) (user : Option (List ℕ)) (now : ℕ) (o : Option Bool) (r : AckResult) → (r ≡ answer.Done → ⊥) → (let x : Board × AckResult = (c, r) in x) ≡ answered b number user now o → c ≡ b
answered_not b c number user now None r not e = ap (λ (x : Board × AckResult). x.0) e
answered_not b c number user now (Some true) r not e = ap (λ (x : Board × AckResult). x.0) e
answered_not b c number user now (Some false) r not e = absurd (not (ap (λ (x : Board × AckResult). x.1) e))

-- where nothing was acknowledged the board is as it was
pub ack_not : (b c : Board) (number : ℕ) (user : Option (List ℕ)) (now : ℕ) (r : AckResult) → (r ≡ answer.Done → ⊥) → (let x : Board × AckResult = (c, r) in x) ≡ on_ack b number user now → c ≡ b
ack_not b c number user now r not e = answered_not b c number user now (acked_if_needed b.rules (alarm_of number b.alarms)) r not e

-- what a board keeps
turn_keeps : (b : Board) (rule now : ℕ) (v : Option Num) (w : Option ℕ) → ((turn b rule now v w).0.root ≡ b.root) × ((turn b rule now v w).0.rules ≡ b.rules)
turn_keeps b rule now (Some v) None = (refl, refl)
turn_keeps b rule now None (Some n) = (refl, refl)
turn_keeps b rule now (Some v) (Some n) = (refl, refl)
turn_keeps b rule now None None = (refl, refl)

pub value_keeps : (b : Board) (rule : ℕ) (value : Option Num) (now : ℕ) → ((on_value b rule value now).0.root ≡ b.root) × ((on_value b rule value now).0.rules ≡ b.rules)
value_keeps b rule value now = turn_keeps b rule now (outside_of (slice_get b.rules rule) value) (current rule b.alarms)

answered_keeps : (b : Board) (number : ℕ) (user : Option (List ℕ)) (now : ℕ) (o : Option Bool) → ((answered b number user now o).0.root ≡ b.root) × ((answered b number user now o).0.rules ≡ b.rules)
answered_keeps b number user now None = (refl, refl)
answered_keeps b number user now (Some true) = (refl, refl)
answered_keeps b number user now (Some false) = (refl, refl)

pub ack_keeps : (b : Board) (number : ℕ) (user : Option (List ℕ)) (now : ℕ) → ((on_ack b number user now).0.root ≡ b.root) × ((on_ack b number user now).0.rules ≡ b.rules)
ack_keeps b number user now = answered_keeps b number user now (acked_if_needed b.rules (alarm_of number b.alarms))

-- the room of a board does nothing to its alarms
turn_spare : (s : State) (b : Board) (k rule now : ℕ) (v : Option Num) (w : Option ℕ) → with_board s (turn (record b { spare = k }) rule now v w).0 ≡ with_board s (turn b rule now v w).0
turn_spare s b k rule now (Some value) None = refl
turn_spare s b k rule now None (Some number) = refl
turn_spare s b k rule now (Some value) (Some number) = refl
turn_spare s b k rule now None None = refl

pub value_spare : (s : State) (b : Board) (k rule : ℕ) (value : Option Num) (now : ℕ) → with_board s (on_value (record b { spare = k }) rule value now).0 ≡ with_board s (on_value b rule value now).0
value_spare s b k rule value now = turn_spare s b k rule now (outside_of (slice_get b.rules rule) value) (current rule b.alarms)

answered_spare : (s : State) (b : Board) (k number : ℕ) (user : Option (List ℕ)) (now : ℕ) (o : Option Bool) → with_board s (answered (record b { spare = k }) number user now o).0 ≡ with_board s (answered b number user now o).0
answered_spare s b k number user now None = refl
answered_spare s b k number user now (Some true) = refl
answered_spare s b k number user now (Some false) = refl

pub ack_spare : (s : State) (b : Board) (k number : ℕ) (user : Option (List ℕ)) (now : ℕ) → with_board s (on_ack (record b { spare = k }) number user now).0 ≡ with_board s (on_ack b number user now).0
ack_spare s b k number user now = answered_spare s b k number user now (acked_if_needed b.rules (alarm_of number b.alarms))

-- the board of a plan and a state
pub board_is : (plan : Plan) (s : State) (b : Board) → b.root ≡ plan.root → b.rules ≡ numbered_from 0 plan.rules → b.alarms ≡ s.alarms → b.events ≡ s.events → b ≡ record (board plan s) { spare = b.spare }
board_is plan s b root rules al es =
    ap (λ (x : Path). let c : Board = record { root = x; rules = b.rules; alarms = b.alarms; events = b.events; spare = b.spare } in c) root
    ∙ ap (λ (x : List Rule). let c : Board = record { root = plan.root; rules = x; alarms = b.alarms; events = b.events; spare = b.spare } in c) rules
    ∙ ap (λ (x : List Alarm). let c : Board = record { root = plan.root; rules = numbered_from 0 plan.rules; alarms = x; events = b.events; spare = b.spare } in c) al
    ∙ ap (λ (x : List Event). let c : Board = record { root = plan.root; rules = numbered_from 0 plan.rules; alarms = s.alarms; events = x; spare = b.spare } in c) es

-- what a board with an event taken back is, as a state
adds : (s : State) (b c : Board) → b.alarms ≡ s.alarms → b.events ≡ s.events → IsBack b c → AddsEvent true s (with_board s c)
adds s b c al es back = (
  back.some,
  ap (λ (x : List Alarm). let t : State = record s { alarms = x; events = events_before c.events } in t) (back.alarms ∙ al)
      ∙ ap (λ (x : List Event). let t : State = record s { events = x } in t) (back.events ∙ es),
)

adds_none : (s : State) (b c : Board) → b.alarms ≡ s.alarms → b.events ≡ s.events → c ≡ b → AddsEvent false s (with_board s c)
adds_none s b c al es is =
    ap (λ (x : Board). with_board s x) is
    ∙ ap (λ (x : List Alarm). let t : State = record s { alarms = x; events = b.events } in t) al
    ∙ ap (λ (x : List Event). let t : State = record s { events = x } in t) es

-- whether a value is an event
pub value_event : (s : State) (b c : Board) (rule now : ℕ) (value : Option Num) (r : Turned) → b.alarms ≡ s.alarms → b.events ≡ s.events → (let x : Board × Turned = (c, r) in x) ≡ on_value b rule value now → AddsEvent (is_turn r) s (with_board s c)
value_event s b c rule now value turned.Nothing al es e = adds_none s b c al es (value_nothing b c rule now value e)
value_event s b c rule now value (turned.Raised n) al es e = adds s b c al es (value_raised b c rule now value n e)
value_event s b c rule now value (turned.Normal n) al es e = adds s b c al es (value_normal b c rule now value n e)

no_such : (u : Option (List ℕ)) → answer.NoSuch u ≡ answer.Done → ⊥
no_such u e = absurd cc

already : (u : Option (List ℕ)) → answer.Already u ≡ answer.Done → ⊥
already u e = absurd cc

-- whether an acknowledgement is one
pub ack_event : (s : State) (b c : Board) (number : ℕ) (user : Option (List ℕ)) (now : ℕ) (r : AckResult) → b.alarms ≡ s.alarms → b.events ≡ s.events → (let x : Board × AckResult = (c, r) in x) ≡ on_ack b number user now → AddsEvent (is_done r) s (with_board s c)
ack_event s b c number user now answer.Done al es e = adds s b c al es (ack_done b c number user now e)
ack_event s b c number user now (answer.Already u) al es e = adds_none s b c al es (ack_not b c number user now (answer.Already u) (already u) e)
ack_event s b c number user now (answer.NoSuch u) al es e = adds_none s b c al es (ack_not b c number user now (answer.NoSuch u) (no_such u) e)

-- an event that the alarms took back
pub event_undone : (s : State) (new : Board) (e : Event) → s.events ≡ new.events ++ e ∷ [] → new.alarms ≡ before e s.alarms → (let t : State = record s { alarms = new.alarms; events = new.events } in t) ≡ without_event s
event_undone s new e es al =
    ap (λ (x : List Alarm). let t : State = record s { alarms = x; events = new.events } in t)
    (al ∙ sym (ap (λ (x : List Event). alarms_before x s.alarms) es ∙ alarms_before-append new.events e s.alarms))
    ∙ ap (λ (x : List Event). let t : State = record s { alarms = alarms_before s.events s.alarms; events = x } in t)
    (sym (ap events_before es ∙ events_before-append new.events e))

-- the same by the plan's alarms
pub value_has : (plan : Plan) (s : State) (b : Board) (rule : ℕ) (value : Option Num) (now : ℕ) (is : Bool) → b.root ≡ plan.root → b.rules ≡ numbered_from 0 plan.rules → b.alarms ≡ s.alarms → b.events ≡ s.events
    → HasEvents is s (on_value b rule value now).0 → HasEvents is s (on_value (board plan s) rule value now).0
value_has plan s b rule value now is root rules al es has =
    sym (ap (λ (t : State). length t.events)
    (ap (λ (x : Board). with_board s (on_value x rule value now).0) (board_is plan s b root rules al es) ∙ value_spare s (board plan s) b.spare rule value now))
    ∙ has

pub ack_has : (plan : Plan) (s : State) (b : Board) (number : ℕ) (user : Option (List ℕ)) (now : ℕ) (is : Bool) → b.root ≡ plan.root → b.rules ≡ numbered_from 0 plan.rules → b.alarms ≡ s.alarms → b.events ≡ s.events
    → HasEvents is s (on_ack b number user now).0 → HasEvents is s (on_ack (board plan s) number user now).0
ack_has plan s b number user now is root rules al es has =
    sym (ap (λ (t : State). length t.events)
    (ap (λ (x : Board). with_board s (on_ack x number user now).0) (board_is plan s b root rules al es) ∙ ack_spare s (board plan s) b.spare number user now))
    ∙ has
