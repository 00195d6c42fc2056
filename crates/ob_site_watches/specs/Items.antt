-- What holds of an item goes on holding, whatever becomes of what is kept of it.
use Rattle.std.specs.Prelude.{ℕ, ◌≤◌, List}
use Rattle.ob_object.specs.Object.{Object}
use Rattle.ob_history.specs.declared.records.Filter.{Filter}
use Rattle.ob_shown_laws.specs.Alike.{row, DifferInSlots}
use Rattle.ob_site_rules.specs.declared.plan.Plan.{Plan}
use Rattle.ob_tree.specs.declared.node.NodeId.{NodeId}
use Rattle.ob_tree.specs.Trees.{Stamped}
use Rattle.ob_site_watches.specs.Known.{IsNumbered}
use Rattle.ob_site_watches.specs.Watched.{IsOwnAt}
use Rattle.ob_watch.specs.declared.item.Tracked.{Tracked}
use Rattle.ob_watch.specs.declared.item.Tracked.TheVariants as tracked
use Rattle.ob_watch.specs.declared.item.Item.{Item}
use Rattle.ob_watch.specs.Feeds.{FeedLog}
use Rattle.ob_watch.specs.Items.{Text, feed_item, marked_anew, object_item, reported_at}
use Rattle.ob_watch.specs.Marks.{IsMarkPast}
use Rattle.ob_watch.specs.Tables.{Leased}
use Rattle.ob_site_watches.specs.Tables.{AllItems}

-- a fact of the path and the node of a watched object
abbrev pub OnNodeBy : (Text → NodeId → Type 0) → Text → Tracked → Type 0
OnNodeBy P path (tracked.Object node mark) = P path node
OnNodeBy P path (tracked.Feed feed filter given) = Unit {0}

-- the same fact, of an item
abbrev pub OnNode : (Text → NodeId → Type 0) → Item → Type 0
OnNode P i = OnNodeBy P i.path i.tracked

-- So stays what holds of the path and the node of an item: when it is reported, and when the steps are counted anew.
pub record NodesStay (P : Text → NodeId → Type 0) : Type 0 where
  pub reports : (steps : ℕ) (feeds : List FeedLog) (i : Item) → OnNode P i → OnNode P (reported_at steps feeds i)
  pub renumbers : (t : Stamped) (i : Item) → OnNode P i → OnNode P (marked_anew t i)

-- an own node that can be watched
abbrev pub IsOwnNode : Object → Text → NodeId → Type 0
IsOwnNode o path node = IsOwnAt o path node.number

-- No mark is of a step to come: of an item that is added, when items are reported, after more steps, and when the steps are
-- counted anew.
pub record MarksStayPast : Type 0 where
  pub adds : (text path : Text) (node : NodeId) (steps : ℕ) → IsMarkPast steps (object_item text path node steps)
  pub adds_feed : (text path : Text) (feed : ℕ) (filter : Filter) (given steps : ℕ) → IsMarkPast steps (feed_item text path feed filter given)
  pub reports : (steps : ℕ) (feeds : List FeedLog) (i : Item) → IsMarkPast steps (reported_at steps feeds i)
  pub later : (steps more : ℕ) (i : Item) → steps ≤ more → IsMarkPast steps i → IsMarkPast more i
  pub renumbers : (t : Stamped) (i : Item) → IsMarkPast 1 (marked_anew t i)

-- An item on a feed keeps the number of the feed.
pub record NumbersStay : Type 0 where
  pub reports : (plan : Plan) (steps : ℕ) (feeds : List FeedLog) (i : Item) → IsNumbered plan i → IsNumbered plan (reported_at steps feeds i)
  pub renumbers : (plan : Plan) (t : Stamped) (i : Item) → IsNumbered plan i → IsNumbered plan (marked_anew t i)

-- an item stays on an own node that can be watched
abbrev pub OwnNodesStay : Type 0
OwnNodesStay = (o : Object) → NodesStay (IsOwnNode o)

-- and so do the items of all watches, in a tree whose nodes have other slots
abbrev pub OwnItemsStay : Type 0
OwnItemsStay = (o q : Object) → DifferInSlots (row o) (row q) → (ws : List (ℕ × Leased))
    → AllItems (OnNode (IsOwnNode o)) ws → AllItems (OnNode (IsOwnNode q)) ws
