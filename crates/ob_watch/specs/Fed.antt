-- The feeds of a site as its definitions have them.
use Rattle.std.specs.Prelude.{◌≡◌, ℕ, List, map}
use Rattle.ob_history.specs.declared.records.Filter.{Filter}
use Rattle.ob_site_rules.specs.Entries.{is_within}
use Rattle.ob_site_rules.specs.declared.plan.Plan.{Plan}
use Rattle.ob_site_rules.specs.State.{State}
use Rattle.ob_watch.specs.declared.item.Tracked.{Tracked}
use Rattle.ob_watch.specs.declared.item.Tracked.TheVariants.{Object, Feed}
use Rattle.ob_watch.specs.declared.item.Item.{Item}
use Rattle.ob_watch.specs.OfPlan.{of_plan}
use Rattle.ob_watch.specs.Feeds.{FeedLog, feed_at}
use Rattle.ob_watch.specs.Items.{Text}

-- A feed is the one at a path of a site: as many events rolled off, and each kept one passes a filter as its timestamp does.
pub record IsFeedOf (plan : Plan) (s : State) (path : Text) (l : FeedLog) : Type 0 where
  pub gone : l.gone ≡ (of_plan plan).gone s path
  pub passing : (f : Filter) → map ((of_plan plan).passes f) ((of_plan plan).events s path) ≡ map (is_within f) l.times

-- the feed of an item on a feed is the one at its path
abbrev pub IsFedBy : Plan → State → List FeedLog → Text → Tracked → Type 0
IsFedBy plan s feeds path (Object node mark) = Unit {0}
IsFedBy plan s feeds path (Feed feed filter given) = IsFeedOf plan s path (feed_at feeds feed)

abbrev pub IsFed : Plan → State → List FeedLog → Item → Type 0
IsFed plan s feeds i = IsFedBy plan s feeds i.path i.tracked
