use Rattle.std.proofs.Common.{sym, ap, ◌∙◌, arith}
use Rattle.ob_alarms.specs.Changes.{State as Board}
use Rattle.ob_watch.specs.Feeds.{FeedLog, passes_since}
use Rattle.ob_site_state.specs.Kept.{log_of}
use Rattle.ob_site_state.proofs.FeedLogs.{log_at, passes_of_alarms, none_passes}
use Rattle.ob_site_state.proofs.feeds.StateFeeds.passes_since.Goals as goal

pub returns-then-feed-histories : goal.returns-then-feed-histories
returns-then-feed-histories c =
    c.has_passing.ensures
    ∙ ap (λ (l : FeedLog). passes_since l c.args.given c.args.filter.now)
    (sym (log_at c.args.self.now.now c.args.feed c.histories.result c.histories.ensures c.if-feed-histories.true (log_of c.log.result.now) c.log.ensures))

pub returns-then-feed-histories-2 : goal.returns-then-feed-histories-2
returns-then-feed-histories-2 c =
    c.has_raised.ensures
    ∙ passes_of_alarms c.args.self.now.now c.args.feed c.histories-2.result c.histories-2.ensures c.if-feed-histories-2.true c.args.filter.now c.args.given c.alarms.result.now
    (ap (λ (b : Board). b.alarms) c.alarms.ensures) (ap (λ (b : Board). b.events) c.alarms.ensures)

pub returns-else-feed-histories-2 : goal.returns-else-feed-histories-2
returns-else-feed-histories-2 c = none_passes c.args.self.now.now c.args.feed c.histories-2.result c.histories-2.ensures (omega (arith, c.histories.ensures, c.histories-2.ensures, c.if-feed-histories.false)) c.if-feed-histories-2.false c.args.given c.args.filter.now
