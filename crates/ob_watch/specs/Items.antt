-- Items of a watch, with a mark in place of a flag (oBIX 1.1, chapter 12).
use Rattle.std.specs.Prelude.{◌≡◌, ℕ, ◌+◌, Bool, false, cond, List, [], ◌∷◌, length, nat_lt, Option, unwrap_or, slice_get, find}
use Rattle.std.specs.List.{AllByRecursion, list_any}
use Rattle.std.specs.Str.{bytes_eq}
use Rattle.ob_object.specs.Object.{parts}
use Rattle.ob_history.specs.declared.records.Filter.{Filter}
use Rattle.ob_tree.specs.declared.node.NodeId.{NodeId}
use Rattle.ob_tree.specs.Trees.{Stamped}
use Rattle.ob_watching.specs.Tables.{put, is_among}
use Rattle.ob_watch.specs.declared.item.Tracked.{Tracked}
use Rattle.ob_watch.specs.declared.item.Tracked.TheVariants.{Object, Feed}
use Rattle.ob_watch.specs.declared.item.Item.{Item}
use Rattle.ob_watch.specs.Feeds.{FeedLog, ever, feed_at, has_news}

abbrev pub Text : Type 0
Text = List ℕ

-- an item on an object that is reported after this step
abbrev pub object_item : Text → Text → NodeId → ℕ → Item
object_item text path node mark = record { text = text; path = path; tracked = Object node mark }

-- an item on the feed of a number, of whose events so many are reported
abbrev pub feed_item : Text → Text → ℕ → Filter → ℕ → Item
feed_item text path feed filter given = record { text = text; path = path; tracked = Feed feed filter given }

-- the number of the last step that changed what is shown at an object of a tree; 0 where the tree has no such object
abbrev pub stamp_of : Stamped → ℕ → ℕ
stamp_of t n = cond (nat_lt n (parts t.root)) (unwrap_or (slice_get t.stamps n) 0) 0

-- something of what is watched is to be reported: of an object, where its stamp is above its mark
abbrev pub is_due_by : Stamped → List FeedLog → Tracked → Bool
is_due_by t feeds (Object node mark) = nat_lt mark (stamp_of t node.number)
is_due_by t feeds (Feed feed filter given) = has_news (feed_at feeds feed) given filter

abbrev pub is_due : Stamped → List FeedLog → Item → Bool
is_due t feeds i = is_due_by t feeds i.tracked

-- what is kept of an item another
abbrev pub changed_by : (Tracked → Tracked) → Item → Item
changed_by f i = record { text = i.text; path = i.path; tracked = f i.tracked }

-- everything of it is reported after this step
abbrev pub reported_by : ℕ → List FeedLog → Tracked → Tracked
reported_by steps feeds (Object node mark) = Object node steps
reported_by steps feeds (Feed feed filter given) = Feed feed filter (ever (feed_at feeds feed))

abbrev pub reported_at : ℕ → List FeedLog → Item → Item
reported_at steps feeds i = changed_by (reported_by steps feeds) i

-- Steps are counted anew from 1: an object that is due has the mark 0, every other 1.
abbrev pub anew_by : Stamped → Tracked → Tracked
anew_by t (Object node mark) = Object node (cond (nat_lt mark (stamp_of t node.number)) 0 1)
anew_by t (Feed feed filter given) = Feed feed filter given

abbrev pub marked_anew : Stamped → Item → Item
marked_anew t i = changed_by (anew_by t) i

-- the bytes of the hrefs of items
abbrev pub bytes_of : List Item → ℕ
bytes_of [] = 0
bytes_of (i ∷ items) = length i.text + bytes_of items

-- an item is of this href
abbrev pub has_text : List Item → Text → Bool
has_text items text = list_any (λ i. bytes_eq i.text text) items

-- a text is one of these
abbrev pub among : List Text → Text → Bool
among texts text = is_among bytes_eq texts text

-- an item in the place of the one of its href, or last
abbrev pub put_item : Item → List Item → List Item
put_item new items = put (λ old. bytes_eq old.text new.text) (λ _. new) new items

-- the first item of an href
abbrev pub found_item : Text → List Item → Option Item
found_item text items = find (λ i. bytes_eq i.text text) items

-- an item in the place of the one of its href, if there is one
abbrev pub put_over : Item → List Item → List Item
put_over new [] = []
put_over new (old ∷ items) = cond (bytes_eq old.text new.text) (new ∷ items) (old ∷ put_over new items)

-- no two items have one href
abbrev pub Differ : List Item → Type 0
Differ [] = Unit {0}
Differ (item ∷ items) = AllByRecursion (λ other. bytes_eq item.text other.text ≡ false) items × Differ items
