use Rattle.std.proofs.Common.{drop, ap, ◌∙◌, arith}
use Rattle.ob_alarms.specs.Changes.{State as Board}
use Rattle.ob_site_state.proofs.FeedLogs.{ever_of_log, ever_of_alarms, none_ever}
use Rattle.ob_site_state.proofs.feeds.StateFeeds.ever.Goals as goal

pub returns-then-feed-histories : goal.returns-then-feed-histories
returns-then-feed-histories c =
    ever_of_log c.args.self.now.now c.args.feed c.histories.result c.histories.ensures c.if-feed-histories.true c.events_ever.result c.events_ever.ensures.value

pub returns-then-feed-histories-2 : goal.returns-then-feed-histories-2
returns-then-feed-histories-2 c =
    ever_of_alarms c.args.self.now.now c.args.feed c.histories-2.result c.histories-2.ensures c.if-feed-histories-2.true c.events.result.now
    (c.events.ensures ∙ ap (λ (b : Board). drop 0 b.events) c.alarms.ensures)

pub returns-else-feed-histories-2 : goal.returns-else-feed-histories-2
returns-else-feed-histories-2 c = none_ever c.args.self.now.now c.args.feed c.histories-2.result c.histories-2.ensures (omega (arith, c.histories.ensures, c.histories-2.ensures, c.if-feed-histories.false)) c.if-feed-histories-2.false
