use Rattle.ob_alarms.specs.Changes.{on_ack}
use Rattle.ob_site_rules.specs.State.{board}
use Rattle.ob_site_actions.proofs.Counting.{event_over}
use Rattle.ob_site_actions.proofs.limits.ack_overfills.Goals as goal

pub returns : goal.returns
returns c = λ user.
    let k = c.args.state.now in
    event_over k.plan k.now (on_ack (board k.plan k.now) c.args.number user k.time).0 c.would_ack-is_event.result c.one_if.result c.is_full.result c.sound_law.ensures.sound.consistent.counted (c.would_ack-is_event.ensures user) c.one_if.ensures c.is_full.ensures
