-- The entries of WatchOut as objects, by the flags that items stand for.
use Rattle.std.specs.Prelude.{List, map}
use Rattle.ob_object.specs.Object.{Object}
use Rattle.ob_watching.specs.Watches.{changes, changes_of, content_now, reading}
use Rattle.ob_site_rules.specs.Replies.{Reading, content_object, entry}
use Rattle.ob_site_state.specs.Kept.{Kept}
use Rattle.ob_site_state.specs.Stamping.{tree_of}
use Rattle.ob_watch.specs.declared.item.Item.{Item}
use Rattle.ob_watch.specs.OfPlan.{of_plan}
use Rattle.ob_watch.specs.Flags.{flag_of, flags}

-- what is read of an item now
abbrev pub object_now : Kept → Item → Object
object_now k i = content_object (content_now (of_plan k.plan) k.now i.path (flag_of (tree_of k) i.tracked))

-- the entry of an item as it is now
abbrev pub reading_entry : Kept → Item → Object
reading_entry k i = entry (reading (of_plan k.plan) k.now (flags (tree_of k) i))

-- the entries of items as they are now
abbrev pub all_readings : Kept → List Item → List Object
all_readings k items = map entry (map (reading (of_plan k.plan) k.now) (map (flags (tree_of k)) items))

-- what has changed of an item
abbrev pub changes_in : Kept → Item → List Reading
changes_in k i = changes_of (of_plan k.plan) k.now i.text i.path (flag_of (tree_of k) i.tracked)

-- the entries of what has changed of items
abbrev pub all_changes : Kept → List Item → List Object
all_changes k items = map entry (changes (of_plan k.plan) k.now (map (flags (tree_of k)) items))
