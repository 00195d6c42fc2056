-- What holds of the items of watches beside the state of a site.
use Rattle.std.specs.Prelude.{◌≡◌, true, List, Some}
use Rattle.std.specs.List.{AllByRecursion}
use Rattle.ob_object.specs.declared.head.Head.{Head}
use Rattle.ob_object.specs.Object.{Object}
use Rattle.ob_shown_laws.specs.Changed.{is_watchable}
use Rattle.ob_tree.specs.Laid.{head_at, paths}
use Rattle.ob_tree.specs.Paths.{place_of}
use Rattle.ob_site_rules.specs.Build.{Path}
use Rattle.ob_site_rules.specs.declared.plan.Plan.{Plan}
use Rattle.ob_site_state.specs.Kept.{Kept}
use Rattle.ob_watch.specs.declared.item.Tracked.{Tracked}
use Rattle.ob_watch.specs.declared.item.Tracked.TheVariants as tracked
use Rattle.ob_watch.specs.declared.item.Item.{Item}
use Rattle.ob_watch.specs.Feeds.{feed_place}
use Rattle.ob_watch.specs.Marks.{IsMarkPast}

-- a watched object is the own node of the item's path, and can be watched
abbrev pub IsPlacedBy : Object → Path → Tracked → Type 0
IsPlacedBy root path (tracked.Object node mark) =
    (place_of path (paths root) ≡ Some node.number) × ((h : Head) → head_at node.number root ≡ Some h → is_watchable h ≡ true)
IsPlacedBy root path (tracked.Feed feed filter given) = Unit {0}

-- an item on a feed has the number of the feed that stands at its path
abbrev pub IsNumberedBy : Plan → Path → Tracked → Type 0
IsNumberedBy plan path (tracked.Object node mark) = Unit {0}
IsNumberedBy plan path (tracked.Feed feed filter given) = feed_place plan path ≡ Some feed

abbrev pub IsNumbered : Plan → Item → Type 0
IsNumbered plan i = IsNumberedBy plan i.path i.tracked

-- an item names its node or its feed, and its mark is of no step to come
pub record IsSoundItem (k : Kept) (i : Item) : Type 0 where
  pub placed : IsPlacedBy k.now.tree i.path i.tracked
  pub numbered : IsNumbered k.plan i
  pub past : IsMarkPast k.steps i

abbrev pub AreSoundItems : Kept → List Item → Type 0
AreSoundItems k items = AllByRecursion (IsSoundItem k) items
