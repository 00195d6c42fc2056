use Rattle.std.proofs.Common.{ℕ, ◌+◌, List, ◌++◌, map, ap, ◌∙◌}
use Rattle.ob_object.specs.Object.{Object, children}
use Rattle.ob_watching.specs.WatchOuts.{without_name, dropped_in}
use Rattle.ob_client.specs.Feeds.{news_in, feed_of}
use Rattle.ob_client.proofs.FeedLemmas.{grown, two_behind}
use Rattle.ob_client.proofs.kept.longer_feed.Goals as goal

pub returns : goal.returns
returns c =
    let h = c.args.feed.now.head in
    let xs = news_in (children c.args.feed.now) in
    let ys = news_in (children c.args.entry.now) in
    two_behind h (c.dropped_in.result + c.dropped_in-2.result) xs ys c.in_ok-longer.longer c.push_news.new.feed c.push_news-2.new.feed c.in_ok-longer.ensures
    (c.in_ok-push_news.ensures ∙ ap (λ (os : List Object). grown c.in_ok-longer.longer (map without_name (news_in os))) c.children.ensures.value)
    (c.in_ok-push_news-2.ensures ∙ ap (λ (os : List Object). grown c.push_news.new.feed (map without_name (news_in os))) c.children-2.ensures.value)
    ∙ ap (λ (n : ℕ). feed_of h (n + c.dropped_in-2.result) (xs ++ ys)) c.dropped_in.ensures.value
    ∙ ap (λ (n : ℕ). feed_of h (dropped_in (children c.args.feed.now) + n) (xs ++ ys)) c.dropped_in-2.ensures.value
