-- The feeds that a mirror makes.
use Rattle.std.specs.Prelude.{ℕ, not, List, ◌++◌, map}
use Rattle.std.specs.List.{filter}
use Rattle.ob_object.specs.declared.head.Head.{Head}
use Rattle.ob_object.specs.Object.{Object, in_row}
use Rattle.ob_watching.specs.WatchOuts.{is_dropped, without_name}
use Rattle.ob_client.specs.Shown.{dropped_child}

-- the children that are events
abbrev pub news_in : List Object → List Object
news_in os = filter (λ o. not (is_dropped o)) os

-- a feed of which so many events were missed, and these are held, without their names
abbrev pub feed_of : Head → ℕ → List Object → Object
feed_of h missed events = record { head = h; inner = in_row (dropped_child missed ++ map without_name events) }
