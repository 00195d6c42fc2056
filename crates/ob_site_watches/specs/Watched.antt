-- Which objects a watch watches. Source: oBIX 1.1, chapter 12 (Watches); that ops and feeds aren't watched as objects is this
-- profile's own.
use Rattle.std.specs.Prelude.{◌≡◌, ℕ, true, List, Option, Some}
use Rattle.ob_object.specs.declared.head.Head.{Head}
use Rattle.ob_object.specs.Object.{Object}
use Rattle.ob_watching.specs.Operations.{FeedAt, ObjectAt}
use Rattle.ob_site_rules.specs.Build.{Path, Text}
use Rattle.ob_site_rules.specs.Locating.{locate}
use Rattle.ob_site_rules.specs.Sites.{found}
use Rattle.ob_site_rules.specs.declared.plan.Plan.{Plan}
use Rattle.ob_site_rules.specs.State.{State}
use Rattle.ob_site_rules.specs.Watched.{SiteFound}
use Rattle.ob_shown_laws.specs.Alike.{row, DifferInSlots}
use Rattle.ob_shown_laws.specs.Changed.{is_watchable}
use Rattle.ob_tree.specs.Laid.{head_at, paths}
use Rattle.ob_tree.specs.Paths.{place_of}
use Rattle.ob_watch.specs.Feeds.{feed_place}

-- what is found to be a watched object is an own node that can be watched, and a feed that is found has a number
abbrev pub IsOwnFound : Plan → Object → SiteFound → Type 0
IsOwnFound plan root (ObjectAt path) =
    (n : ℕ) × (place_of path (paths root) ≡ Some n) × ((h : Head) → head_at n root ≡ Some h → is_watchable h ≡ true)
IsOwnFound plan root (FeedAt path filter) = (n : ℕ) × (feed_place plan path ≡ Some n)
IsOwnFound plan root _ = Unit {0}

-- the own node of a path has this number, and can be watched
abbrev pub IsOwnAt : Object → Path → ℕ → Type 0
IsOwnAt root path n = (place_of path (paths root) ≡ Some n) × ((h : Head) → head_at n root ≡ Some h → is_watchable h ≡ true)

-- whatever text is asked for
abbrev pub WatchedAreOwn : Plan → State → Type 0
WatchedAreOwn plan s =
    (numbers : List ℕ) → (text : Text) → (input : Option Object) → IsOwnFound plan s.tree (found locate plan s numbers text input)

-- and so of every site
abbrev pub AllWatchedAreOwn : Type 0
AllWatchedAreOwn = (plan : Plan) (s : State) → WatchedAreOwn plan s

-- An own node that can be watched stays one, under its number, in a tree whose nodes have other slots.
abbrev pub OwnNodesStay : Type 0
OwnNodesStay = (o q : Object) → DifferInSlots (row o) (row q) → (p : Path) (n : ℕ) → IsOwnAt o p n → IsOwnAt q p n
