use Rattle.std.proofs.Common.{◌≡◌, true}
use Rattle.ob_object.specs.Object.{children}
use Rattle.ob_watching.specs.WatchOuts.{dropped_in}
use Rattle.ob_client.specs.Entries.{is_feed}
use Rattle.ob_client.specs.Feeds.{news_in}
use Rattle.ob_client.proofs.ShownLemmas.{shown_made, changed_is}
use Rattle.ob_client.proofs.kept.Kept.changed.Goals as goal

pub invariant_of-result : goal.invariant_of-result
invariant_of-result c =
    let cs = children c.args.entry.now in
    let feed : is_feed c.args.entry.now ≡ true = cc (c.is_feed.ensures, c.if-not-is_feed.false) in
    shown_made c.args.entry.now.head (dropped_in cs) (news_in cs) c.in_ok-feed.feed c.in_ok-feed.ensures c.requires feed

pub returns : goal.returns
returns c =
    let feed : is_feed c.args.entry.now ≡ true = cc (c.is_feed.ensures, c.if-not-is_feed.false) in
    changed_is c.args.entry.now c.in_ok-feed.feed c.in_ok-feed.ensures feed
