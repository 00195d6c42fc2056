-- Whatever is done to a tree of own objects, no stamp is of a step to come.
use Rattle.std.specs.Prelude.{◌≡◌, ℕ, List, map, replicate}
use Rattle.ob_object.specs.Object.{Object, parts}
use Rattle.ob_tree.specs.Trees.{Stamped}
use Rattle.ob_tree.specs.LastTouch.{Stamping, Begins, Touches, done, all_done}
use Rattle.ob_watch.specs.Flags.{anew}
use Rattle.ob_watch.specs.Marks.{AreStampsPast}

-- a tree just built
abbrev pub built : Object → Stamped
built o = record { root = o; stamps = replicate (parts o) 0; steps = 0 }

-- So of a tree just built; after one more step, which touches the objects of these numbers; after whatever else is done to the
-- stamps; when the steps are counted anew; and where the tree has other objects, as many.
pub record StampsArePast : Type 0 where
  pub begins : (o : Object) → AreStampsPast (built o)
  pub steps : (ns : List ℕ) (t : Stamped) → AreStampsPast t → AreStampsPast (all_done (map Touches ns) (done Begins t))
  pub whatever : (cs : List Stamping) (t : Stamped) → AreStampsPast t → AreStampsPast (all_done cs t)
  pub anew : (t : Stamped) → AreStampsPast (anew t)
  pub others : (o : Object) (t : Stamped) → parts o ≡ parts t.root → AreStampsPast t → AreStampsPast (record t { root = o })
