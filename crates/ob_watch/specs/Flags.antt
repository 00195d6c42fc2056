-- The watches with flags that marked watches stand for, beside the tree of a site.
use Rattle.std.specs.Prelude.{ℕ, List, map, nat_lt, replicate}
use Rattle.ob_object.specs.Object.{parts}
use Rattle.ob_history.specs.declared.records.Filter.{Filter}
use Rattle.ob_tree.specs.Trees.{Stamped}
use Rattle.ob_watching.specs.Tables.{map_values}
use Rattle.ob_watching.specs.Watches.{TrackedOf, ItemOf, WatchOf}
use Rattle.ob_watching.specs.Watches as rules
use Rattle.ob_watch.specs.declared.item.Tracked.{Tracked}
use Rattle.ob_watch.specs.declared.item.Tracked.TheVariants.{Object, Feed}
use Rattle.ob_watch.specs.declared.item.Item.{Item}
use Rattle.ob_watch.specs.Items.{Text, stamp_of}
use Rattle.ob_watch.specs.Tables.{Leased}

-- an object has changed where its stamp is above its mark
abbrev pub flag_of : Stamped → Tracked → TrackedOf Filter
flag_of t (Object node mark) = rules.Object (nat_lt mark (stamp_of t node.number))
flag_of t (Feed feed filter given) = rules.Feed filter given

abbrev pub flags : Stamped → Item → ItemOf Text Text Filter
flags t i = record { text = i.text; path = i.path; tracked = flag_of t i.tracked }

abbrev pub flagged : Stamped → Leased → WatchOf Text Text Filter
flagged t w = record { lease = w.lease; touched = w.touched; items = map (flags t) w.items }

abbrev pub flags_of : Stamped → List (ℕ × Leased) → List (ℕ × WatchOf Text Text Filter)
flags_of t ws = map_values (flagged t) ws

-- the tree as its steps are counted from 1 again
abbrev pub anew : Stamped → Stamped
anew t = record { root = t.root; stamps = replicate (parts t.root) 1; steps = 1 }
