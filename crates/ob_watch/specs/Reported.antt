-- What is to be reported of a watch.
use Rattle.std.specs.Prelude.{◌≡◌, ℕ, List, map, Option, Some, None, slice_get}
use Rattle.ob_tree.specs.Trees.{Stamped}
use Rattle.ob_watch.specs.declared.watch.Due.{Due}
use Rattle.ob_watch.specs.declared.item.Item.{Item}
use Rattle.ob_watch.specs.Feeds.{FeedLog}
use Rattle.ob_watch.specs.Items.{reported_at}
use Rattle.ob_watch.specs.Tables.{Leased, next_due, watching}

-- an item and its place, in a watch that is held
abbrev pub IsDueIn : Stamped → List FeedLog → ℕ → Leased → Option Due → Type 0
IsDueIn t feeds place w None = next_due t feeds place w.items ≡ None
IsDueIn t feeds place w (Some d) = (next_due t feeds place w.items ≡ Some d.place) × (slice_get w.items d.place ≡ Some d.item.now)

-- the first item from a place on that is to be reported, and its place
abbrev pub IsDue : Stamped → List FeedLog → ℕ → Option Leased → Option Due → Type 0
IsDue t feeds place None d = d ≡ None
IsDue t feeds place (Some w) d = IsDueIn t feeds place w d

-- all items of a watch are reported after this step
abbrev pub all_reported : ℕ → List FeedLog → Leased → Leased
all_reported steps feeds w = watching (map (reported_at steps feeds) w.items) w
