-- How many steps a poll takes, and how many it may take, told by its reply. A step is a view taken of what an object inherits, or
-- one object of an effective object that is built (oBIX 1.1, chapters 7 and 12).
use Rattle.std.specs.Prelude.{◌≡◌, ℕ, ◌+◌, ◌-◌, ◌^◌, min, Bool, true, false, not, ◌&&◌, List, [], ◌∷◌, Option, Some, None, option_map, unwrap_or}
use Rattle.std.specs.List.{filter}
use Rattle.ob_object.specs.declared.kind.Kind.TheVariants as kind
use Rattle.ob_object.specs.Object.{Object, parts}
use Rattle.ob_history.specs.declared.records.Filter.{Filter}
use Rattle.ob_tree.specs.Depths.{depth_at, levels}
use Rattle.ob_tree.specs.Laid.{paths}
use Rattle.ob_tree.specs.Paths.{place_of}
use Rattle.ob_tree.specs.Shown.{row}
use Rattle.ob_watching.specs.Operations.{Look, Renew, Add, Remove, PollChanges, PollRefresh, Delete, Refuse, Itself, Nowhere, NewWatch, OneWatch}
use Rattle.ob_watching.specs.Tables.{lookup}
use Rattle.ob_watching.specs.Watches.{TrackedOf, ItemOf, WatchOf, WorldOf}
use Rattle.ob_watching.specs.Watches as rules
use Rattle.ob_watching.specs.WatchOuts.{is_of_kind, entries_of}
use Rattle.ob_site_rules.specs.Build.{Path, Text}
use Rattle.ob_site_rules.specs.Sites.{watched_object}
use Rattle.ob_site_rules.specs.State.{State}
use Rattle.ob_site_rules.specs.declared.plan.Plan.{Plan}
use Rattle.ob_site_rules.specs.Watched.{SiteTarget, WatchOperation}

-- a watch of a site
abbrev pub SiteWatch : Type 0
SiteWatch = WatchOf Text Path Filter

-- how many objects are round the own object at a path, in a tree; none where no own object is there
abbrev pub round_at : Object → Path → ℕ
round_at root path = unwrap_or (option_map (λ n. depth_at n root) (place_of path (paths root))) 0

-- what it takes to show an own object: a view of each object round it, and each object of what is shown (counted to 2^64 - 1)
abbrev pub shown_steps : Plan → State → Path → ℕ
shown_steps plan s path = round_at s.tree path + min (parts (watched_object plan s path)) (2 ^ 64 - 1)

-- Watch.pollChanges of an item: an object is shown that has changed
abbrev pub item_steps : Plan → State → Path → TrackedOf Filter → ℕ
item_steps plan s path (rules.Object true) = shown_steps plan s path
item_steps plan s path (rules.Object false) = 0
item_steps plan s path (rules.Feed filter given) = 0

-- Watch.pollRefresh of an item: an object is shown, whether it has changed or not
abbrev pub reading_steps : Plan → State → Path → TrackedOf Filter → ℕ
reading_steps plan s path (rules.Object changed) = shown_steps plan s path
reading_steps plan s path (rules.Feed filter given) = 0

-- all items of a watch
abbrev pub poll_steps : Plan → State → List (ItemOf Text Path Filter) → ℕ
poll_steps plan s [] = 0
poll_steps plan s (i ∷ is) = item_steps plan s i.path i.tracked + poll_steps plan s is

abbrev pub refresh_steps : Plan → State → List (ItemOf Text Path Filter) → ℕ
refresh_steps plan s [] = 0
refresh_steps plan s (i ∷ is) = reading_steps plan s i.path i.tracked + refresh_steps plan s is

-- the items of a watch, if it stands
abbrev pub items_in : Option SiteWatch → List (ItemOf Text Path Filter)
items_in None = []
items_in (Some w) = w.items

-- From how many steps to how many an operation on a watch counts. Of Watch.add and of a lease no more is said than that what they
-- look at and build is counted.
abbrev pub WatchTakes : Plan → State → Option SiteWatch → WatchOperation → ℕ → ℕ → Type 0
WatchTakes plan s w (Look part) old new = new ≡ old
WatchTakes plan s w (Renew input) old new = Unit {0}
WatchTakes plan s w (Add asked) old new = Unit {0}
WatchTakes plan s w (Remove texts) old new = new ≡ old
WatchTakes plan s w PollChanges old new = new ≡ old + poll_steps plan s (items_in w)
WatchTakes plan s w PollRefresh old new = new ≡ old + refresh_steps plan s (items_in w)
WatchTakes plan s w Delete old new = new ≡ old
WatchTakes plan s w (Refuse fault) old new = new ≡ old

-- A request to a target, once the watches whose lease has run out are gone. Of the site's own requests no more is said than that
-- what they look at and build is counted.
abbrev pub Takes : Plan → WorldOf State Text Path Filter → SiteTarget → ℕ → ℕ → Type 0
Takes plan w Itself old new = Unit {0}
Takes plan w Nowhere old new = new ≡ old
Takes plan w NewWatch old new = new ≡ old
Takes plan w (OneWatch n op) old new = WatchTakes plan w.site (lookup n w.watches) op old new

-- an entry for an object: an entry for a feed is a feed, and a refusal is an err
abbrev pub is_of_object : Object → Bool
is_of_object entry = not (is_of_kind kind.Feed entry) && not (is_of_kind kind.Err entry)

-- the entries for objects
abbrev pub of_objects : List Object → List Object
of_objects entries = filter is_of_object entries

-- and those of a reply; one that is no WatchOut has none
abbrev pub object_entries : Object → List Object
object_entries reply = of_objects (unwrap_or (entries_of reply) [])

-- as many steps as these objects have parts, and for each so many more for the objects round it
abbrev pub steps_for : ℕ → List Object → ℕ
steps_for round [] = 0
steps_for round (o ∷ os) = parts o + round + steps_for round os

-- in a tree, where round an object are fewer objects than the tree has levels
abbrev pub steps_in : Object → List Object → ℕ
steps_in root entries = steps_for (levels (row root)) entries
