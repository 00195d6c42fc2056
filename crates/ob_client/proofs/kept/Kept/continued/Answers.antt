use Rattle.std.proofs.Common.{◌≡◌, ◌+◌, ◌++◌, true, ap, sym, ◌∙◌}
use Rattle.ob_object.specs.Object.{children}
use Rattle.ob_watching.specs.WatchOuts.{Held, dropped_in}
use Rattle.ob_client.specs.Entries.{is_feed}
use Rattle.ob_client.specs.Feeds.{news_in}
use Rattle.ob_client.specs.Mirrors.{follows}
use Rattle.ob_client.proofs.ShownLemmas.{shown_made, has_href, follows_feed, goes_on, goes_on_longer}
use Rattle.ob_client.proofs.kept.Kept.continued.Goals as goal

pub longer_feed-requires : goal.longer_feed-requires
longer_feed-requires c =
    let s = c.self.inside.entry in
    let o = c.args.entry.now in
    let old : is_feed s ≡ true = cc (c.is_feed.ensures, c.if-not-is_feed.false) in
    let new : is_feed o ≡ true = cc (c.is_feed-2.ensures, c.if-not-is_feed-2.false) in
    sym (follows_feed s o old new) ∙ ap (λ (h : Held). follows h.content o) c.self.view_is ∙ c.requires.counted

pub invariant_of-result : goal.invariant_of-result
invariant_of-result c =
    let s = c.self.inside.entry in
    let o = c.args.entry.now in
    let old : is_feed s ≡ true = cc (c.is_feed.ensures, c.if-not-is_feed.false) in
    shown_made s.head (dropped_in (children s) + dropped_in (children o)) (news_in (children s) ++ news_in (children o)) c.in_ok-feed.feed c.in_ok-feed.ensures (has_href s c.self.invariant) old

pub returns : goal.returns
returns c =
    let s = c.self.inside.entry in
    let o = c.args.entry.now in
    let old : is_feed s ≡ true = cc (c.is_feed.ensures, c.if-not-is_feed.false) in
    let new : is_feed o ≡ true = cc (c.is_feed-2.ensures, c.if-not-is_feed-2.false) in
    goes_on_longer s o c.in_ok-feed.feed c.in_ok-feed.ensures old new ∙ ap (λ (h : Held). goes_on h o) c.self.view_is
