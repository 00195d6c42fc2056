-- The feed of an item that has the number of a feed is the one at its path.
use Rattle.std.proofs.Common.{ℕ, List}
use Rattle.std.specs.List.{AllByRecursion}
use Rattle.ob_site_rules.specs.Build.{Path}
use Rattle.ob_site_rules.specs.State.{State}
use Rattle.ob_site_rules.specs.declared.plan.Plan.{Plan}
use Rattle.ob_site_state.specs.Feeds.{AreFeeds, feed_logs}
use Rattle.ob_watch.specs.declared.item.Tracked.{Tracked}
use Rattle.ob_watch.specs.declared.item.Tracked.TheVariants as tracked
use Rattle.ob_watch.specs.declared.item.Item.{Item}
use Rattle.ob_watch.specs.Fed.{IsFed, IsFedBy}
use Rattle.ob_site_watches.specs.Known.{IsNumbered, IsNumberedBy}

module _ (plan : Plan) (s : State) (feeds : AreFeeds plan s) where
  fed_by : (path : Path) (t : Tracked) → IsNumberedBy plan path t → IsFedBy plan s (feed_logs s) path t
  fed_by path (tracked.Object node mark) numbered = record {}
  fed_by path (tracked.Feed feed filter given) numbered = feeds path feed numbered

  pub fed : (i : Item) → IsNumbered plan i → IsFed plan s (feed_logs s) i
  fed i numbered = fed_by i.path i.tracked numbered
