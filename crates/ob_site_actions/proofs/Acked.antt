-- What an acknowledgement makes of the alarms, and its answer.
use Rattle.std.proofs.Common.{◌≡◌, ℕ, Bool, true, false, Option, Some, None, refl, sym, ap, ◌∙◌}
use Rattle.ob_object.specs.Object.{Object}
use Rattle.ob_alarms.specs.Changes.{State as Board, answered, acked_if_needed, alarm_of, on_ack}
use Rattle.ob_site_rules.specs.Build.{Text}
use Rattle.ob_site_rules.specs.declared.plan.Plan.{Plan}
use Rattle.ob_site_rules.specs.State.{State, board, with_board}
use Rattle.ob_site_rules.specs.Entries.{alarm_object}
use Rattle.ob_site_rules.specs.Computed.{ack_out}
use Rattle.ob_site_rules.specs.Posts.{acked}
use Rattle.ob_site_state.specs.Kept.{Kept}
use Rattle.ob_site_actions.specs.Stops.{IsDone}

by_answer : (plan : Plan) (s : State) (number : ℕ) (user : Option Text) (now : ℕ) (o : Option Bool) → let b : Board = (answered (board plan s) number user now o).0 in b ≡ board plan (with_board s b)
by_answer plan s number user now None = refl
by_answer plan s number user now (Some true) = refl
by_answer plan s number user now (Some false) = refl

-- the alarms after it are those of a state that has them
acked_board : (plan : Plan) (s : State) (number : ℕ) (user : Option Text) (now : ℕ) → let b : Board = acked (board plan s) number user now in b ≡ board plan (with_board s b)
acked_board plan s number user now = by_answer plan s number user now (acked_if_needed (board plan s).rules (alarm_of number s.alarms))

abbrev pub with_alarms : Kept → Board → Kept
with_alarms k b = record k { now = with_board k.now b }

abbrev pub with_spare : ℕ → Board → Board
with_spare n b = record b { spare = n }

-- an alarm is shown the same whatever room there is for more
unspared_alarm : (n number : ℕ) (b : Board) → alarm_object (with_spare n b) number ≡ alarm_object b number
unspared_alarm n number b = refl

pub shown_acked : (k t : Kept) (seen after : Board) (number : ℕ) (named user : Option Text) (alarm reply : Object)
    → t ≡ with_alarms k (on_ack (board k.plan k.now) number named k.time).0 → named ≡ user → seen ≡ with_spare seen.spare (board t.plan t.now)
    → alarm ≡ alarm_object seen number → reply ≡ ack_out alarm → after ≡ acked (board k.plan k.now) number user k.time
    → IsDone k t (with_board k.now after, ack_out (alarm_object after number)) reply
shown_acked k t seen after number named user alarm reply is same see shows replies made =
    let state : t ≡ with_alarms k after =
    is ∙ ap (λ (u : Option Text). with_alarms k (on_ack (board k.plan k.now) number u k.time).0) same ∙ ap (with_alarms k) (sym made) in
    let now : board t.plan t.now ≡ after =
    ap (λ (x : Kept). board x.plan x.now) state
    ∙ ap (λ (b : Board). board k.plan (with_board k.now b)) made
    ∙ sym (acked_board k.plan k.now number user k.time)
    ∙ sym made in
    let at : alarm ≡ alarm_object after number =
    shows ∙ ap (λ (b : Board). alarm_object b number) see ∙ unspared_alarm seen.spare number (board t.plan t.now) ∙ ap (λ (b : Board). alarm_object b number) now in
    record {
      after = state;
      answer = replies ∙ ap (λ (o : Object). ack_out o) at;
    }
