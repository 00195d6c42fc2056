use Rattle.std.proofs.Common.{Bool, sym, ap, subst}
use Rattle.ob_alarms.specs.Changes.{State as Board}
use Rattle.ob_site_rules.specs.State.{with_board}
use Rattle.ob_site_state.specs.Changes.{AddsEvent}
use Rattle.ob_site_state.specs.Contents.{state_in}
use Rattle.ob_site_state.proofs.Events.{ack_event}
use Rattle.ob_site_state.proofs.contents.Contents.acknowledge.Goals as goal

pub returns-clause-event : goal.returns-clause-event
returns-clause-event c =
    let s = state_in c.args.self.now in
    let b = c.reserve.new.self in
    let new = c.ack-answer.new.self in
    let stays = c.reserve.ensures.stays in
    subst (λ (x : Bool). AddsEvent x s (with_board s new)) (sym c.is_done.ensures)
    (ack_event s b new c.args.number c.args.user c.args.now c.ack-answer.result (ap (λ (x : Board). x.alarms) stays) (ap (λ (x : Board). x.events) stays) c.ack-answer.ensures)
