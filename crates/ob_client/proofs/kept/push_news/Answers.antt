use Rattle.std.proofs.Common.{◌≡◌, ap, ◌∙◌, take, map, arith, true, false}
use Rattle.std.specs.List.{filter}
use Rattle.ob_object.specs.Object.{Object}
use Rattle.ob_object.specs.WellFormed.{with_child}
use Rattle.ob_watching.specs.WatchOuts.{without_name, is_dropped}
use Rattle.ob_client.proofs.FeedLemmas.{grown, grown_none, grown_child, is_event, more_news, passed_over}
use Rattle.ob_client.proofs.kept.push_news.Goals.{then-not-is_named+in_ok-push_event, else-not-is_named}
use Rattle.ob_client.proofs.kept.push_news.Goals as goal

pub loop-event-init : goal.loop-event-init
loop-event-init c = grown_none c.args.feed.now

pub loop-event-preserved : goal.loop-event-preserved
loop-event-preserved c =
    let es = c.args.events.now in
    let i = c.loop-event.event-index in
    let e = c.event-item.result in
    elim c.if-not-is_named.branch [
      | then-not-is_named+in_ok-push_event w ↦
          let event : is_dropped e ≡ false = cc (c.is_named.ensures, w.if-not-is_named.true) in
          w.feed-is ∙ w.in_ok-push_event.ensures
          ∙ ap (λ (o : Object). with_child o (without_name e)) c.loop-event.invariant
          ∙ grown_child c.args.feed.now (map without_name (filter is_event (take i es))) (without_name e)
          ∙ ap (grown c.args.feed.now) (more_news es i e (omega arith) c.event-item.is event)
      | else-not-is_named w ↦
          let dropped : is_dropped e ≡ true = cc (c.is_named.ensures, w.if-not-is_named.false) in
          w.feed-is ∙ c.loop-event.invariant
          ∙ ap (grown c.args.feed.now) (passed_over es i e (omega arith) c.event-item.is dropped)
    ]
