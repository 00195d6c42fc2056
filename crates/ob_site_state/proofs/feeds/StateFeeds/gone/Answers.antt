use Rattle.std.proofs.Common.{sym, ap, ◌∙◌}
use Rattle.ob_watch.specs.Feeds.{FeedLog}
use Rattle.ob_site_state.specs.Kept.{log_of}
use Rattle.ob_site_state.proofs.FeedLogs.{log_at, none_gone}
use Rattle.ob_site_state.proofs.feeds.StateFeeds.gone.Goals as goal

pub returns-then-feed-histories : goal.returns-then-feed-histories
returns-then-feed-histories c =
    c.gone.ensures
    ∙ ap (λ (l : FeedLog). l.gone) (sym (log_at c.args.self.now.now c.args.feed c.histories.result c.histories.ensures c.if-feed-histories.true (log_of c.log.result.now) c.log.ensures))

pub returns-else-feed-histories : goal.returns-else-feed-histories
returns-else-feed-histories c = none_gone c.args.self.now.now c.args.feed c.histories.result c.histories.ensures c.if-feed-histories.false
