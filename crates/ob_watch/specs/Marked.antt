-- What is known of all items of a watch: the mark of those on objects, and whether some are on feeds.
use Rattle.std.specs.Prelude.{◌≡◌, ℕ, ◌-◌, ◌^◌, ◌≤◌, min, Bool, true, false, List, Option, Some, None, IfSome}
use Rattle.std.specs.List.{AllByRecursion}
use Rattle.ob_tree.specs.declared.node.NodeId.{NodeId}
use Rattle.ob_watch.specs.declared.item.Tracked.{Tracked}
use Rattle.ob_watch.specs.declared.item.Tracked.TheVariants.{Object, Feed}
use Rattle.ob_watch.specs.declared.item.Item.{Item}
use Rattle.ob_watch.specs.Held.{Entries, StandUnderOwn, items_of}
use Rattle.ob_watch.specs.Items.{bytes_of}

-- what is watched is a feed
abbrev pub is_feed : Tracked → Bool
is_feed (Object node mark) = false
is_feed (Feed feed filter given) = true

-- what is kept of an object has this mark
abbrev pub IsMarkedBy : ℕ → Tracked → Type 0
IsMarkedBy m (Object node mark) = mark ≡ m
IsMarkedBy m (Feed feed filter given) = Unit {0}

-- each item on an object has this mark
abbrev pub AllMarked : ℕ → List Item → Type 0
AllMarked m items = AllByRecursion (λ i. IsMarkedBy m i.tracked) items

-- each item on an object has this mark, where one is known
abbrev pub AreMarked : Option ℕ → List Item → Type 0
AreMarked known items = IfSome known (λ m. AllMarked m items)

-- no item is on a feed, where that is known
abbrev pub AreOnObjects : Bool → List Item → Type 0
AreOnObjects may_be_feeds items = may_be_feeds ≡ false → AllByRecursion (λ i. is_feed i.tracked ≡ false) items

-- what is kept of an object stays that of an object, and of a feed that of a feed
abbrev pub KeepsKinds : (Tracked → Tracked) → Type 0
KeepsKinds f = (kept : Tracked) → is_feed (f kept) ≡ is_feed kept

-- each object gets this mark
abbrev pub GivesMark : ℕ → (Tracked → Tracked) → Type 0
GivesMark m f = (node : NodeId) (mark : ℕ) → f (Object node mark) ≡ Object node m

-- a mark is known, and it is of so many steps or more
abbrev pub IsReached : ℕ → Option ℕ → Type 0
IsReached steps None = ⊥
IsReached steps (Some m) = steps ≤ m

-- Each item stands under its own href, those on objects have this mark, some may be on feeds, and the hrefs have so
-- many bytes, counted to 2^64 - 1.
pub record AreKnown (es : Entries) (mark : Option ℕ) (may_be_feeds : Bool) (bytes : ℕ) : Type 0 where
  pub own : StandUnderOwn es
  pub marked : AreMarked mark (items_of es)
  pub objects : AreOnObjects may_be_feeds (items_of es)
  pub sizes : bytes ≡ min (bytes_of (items_of es)) (2 ^ 64 - 1)
