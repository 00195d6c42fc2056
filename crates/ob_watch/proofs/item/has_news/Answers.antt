use Rattle.std.proofs.Common.{sym}
use Rattle.ob_watch.specs.Feeds.{feed_at}
use Rattle.ob_watch.proofs.NewsLemmas.{news_open}
use Rattle.ob_watch.proofs.item.has_news.Goals as goal

pub returns-then-is_open : goal.returns-then-is_open
returns-then-is_open g c =
    sym (news_open (feed_at (g.F.Feeds.logs c.args.feeds.now) c.args.feed) c.args.given c.ever.result c.args.filter.now
    (c.is_open.ensures c.if-is_open.true) c.ever.ensures c.if-given-ever.false)
