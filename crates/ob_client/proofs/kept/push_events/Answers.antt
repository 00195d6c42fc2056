use Rattle.std.proofs.Common.{ap, ◌∙◌, take, map, arith}
use Rattle.ob_object.specs.Object.{Object}
use Rattle.ob_object.specs.WellFormed.{with_child}
use Rattle.ob_watching.specs.WatchOuts.{without_name}
use Rattle.ob_client.proofs.FeedLemmas.{grown, grown_none, grown_child, more_events}
use Rattle.ob_client.proofs.kept.push_events.Goals as goal

pub loop-event-init : goal.loop-event-init
loop-event-init c = grown_none c.args.feed.now

pub loop-event-preserved : goal.loop-event-preserved
loop-event-preserved c =
    let es = c.args.events.now in
    let i = c.loop-event.event-index in
    let e = c.event-item.result in
    c.in_ok-push_event.ensures
    ∙ ap (λ (o : Object). with_child o (without_name e)) c.loop-event.invariant
    ∙ grown_child c.args.feed.now (map without_name (take i es)) (without_name e)
    ∙ ap (grown c.args.feed.now) (more_events es i e (omega arith) c.event-item.is)
