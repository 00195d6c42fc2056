-- One more step of a tree of own objects, and of the state that has it.
use Rattle.std.specs.Prelude.{ℕ, List, map}
use Rattle.ob_tree.specs.Trees.{Stamped}
use Rattle.ob_tree.specs.LastTouch.{Begins, Touches, done, all_done}
use Rattle.ob_site_state.specs.Kept.{Kept}

-- a tree after one more step, which touches the objects of these numbers
abbrev pub after_step : List ℕ → Stamped → Stamped
after_step ns tree = all_done (map Touches ns) (done Begins tree)

-- the own objects of a state, with their stamps
abbrev pub tree_of : Kept → Stamped
tree_of k = record { root = k.now.tree; stamps = k.stamps; steps = k.steps }

-- the state with the stamps of that step
abbrev pub stamped_by : List ℕ → Kept → Kept
stamped_by ns k = record k { stamps = (after_step ns (tree_of k)).stamps; steps = (after_step ns (tree_of k)).steps }
