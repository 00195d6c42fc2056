use Rattle.std.proofs.Common.{◌≡◌, ◌∙◌}
use Rattle.std.proofs.lemmas.Result.{IfOk-weaker}
use Rattle.ob_alarms.specs.Changes.{State as Board}
use Rattle.ob_site_rules.specs.State.{board, with_board}
use Rattle.ob_site_rules.specs.Computed.{ack_out}
use Rattle.ob_site_rules.specs.Entries.{alarm_object}
use Rattle.ob_site_rules.specs.Posts.{acked, user_in}
use Rattle.ob_site_actions.specs.Stops.{IsDone}
use Rattle.ob_site_actions.proofs.Acked.{shown_acked}
use Rattle.ob_site_actions.proofs.acks.show_acknowledged.Goals as goal

pub returns-clause-ok : goal.returns-clause-ok
returns-clause-ok c =
    let k = c.args.state.now in
    let t = c.acknowledge.new.self in
    let n = c.args.number in
    let user = user_in c.args.input.now in
    IfOk-weaker c.ack_out.result (λ reply. reply ≡ ack_out c.in_ok-alarm.alarm)
    (λ reply. (after : Board) → after ≡ acked (board k.plan k.now) n user k.time → IsDone k t (with_board k.now after, ack_out (alarm_object after n)) reply)
    (λ reply is after made. shown_acked k t c.alarms.result.now after n c.in_ok-user.user user c.in_ok-alarm.alarm reply c.in_ok-acknowledge.ensures.ok (c.in_ok-user.ensures ∙ c.user_in.ensures) c.alarms.ensures c.in_ok-alarm.ensures is made)
    c.ack_out.ensures
