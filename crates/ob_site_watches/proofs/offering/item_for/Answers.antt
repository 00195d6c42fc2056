use Rattle.std.proofs.Common.{ap, subst, sym, ◌∙◌}
use Rattle.ob_requests.specs.Calls.{found as found_of}
use Rattle.ob_site_rules.specs.Watched.{SiteFound}
use Rattle.ob_watch.specs.declared.item.Item.{Item}
use Rattle.ob_watch.specs.Items.{feed_item}
use Rattle.ob_site_watches.specs.Offered.{IsItemFor}
use Rattle.ob_site_watches.proofs.Found.{feed_for}
use Rattle.ob_site_watches.proofs.offering.item_for.Goals as goal

pub returns-in-Some-2 : goal.returns-in-Some-2
returns-in-Some-2 c =
    subst (λ (i : Item). IsItemFor c.args.state.now c.args.text (found_of c.args.found) i) (sym c.feed.ensures)
    (subst (λ (f : SiteFound). IsItemFor c.args.state.now c.args.text f (feed_item c.args.text c.in-Feed.path c.in-Some-2.feed c.in-Feed.filter c.ever.result)) (sym (ap found_of c.in-Feed.is))
    (feed_for c.args.state.now c.args.text c.in-Feed.path c.in-Feed.filter c.in-Some-2.feed c.ever.result c.feeds_law.ensures (sym c.in_ok-feed-in-Feed.ensures ∙ c.in-Some-2.is) c.ever.ensures))
