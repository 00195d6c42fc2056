use Rattle.std.proofs.Common.{◌-◌}
use Rattle.ob_site_rules.specs.Watched.{passes, gone_at}
use Rattle.ob_site_reads.proofs.Nameless.{some_nameless}
use Rattle.ob_site_reads.proofs.feeds.feed_since.Goals as goal

pub feed_if_some-requires-clause-nameless : goal.feed_if_some-requires-clause-nameless
feed_if_some-requires-clause-nameless c =
    let plan = c.args.state.now.plan in
    let s = c.args.state.now.now in
    let place = c.in_ok-place.place in
    some_nameless plan s place (passes c.args.since.now.filter) (c.args.since.now.given - gone_at s place) c.in_ok-events.events.items c.in_ok-events.ensures
