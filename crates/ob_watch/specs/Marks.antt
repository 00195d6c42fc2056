-- Marks and stamps by the number of steps.
use Rattle.std.specs.Prelude.{◌≡◌, ℕ, ◌+◌, ◌≤◌, Bool, cond}
use Rattle.ob_tree.specs.Trees.{Stamped}
use Rattle.ob_watch.specs.declared.item.Tracked.{Tracked}
use Rattle.ob_watch.specs.declared.item.Tracked.TheVariants.{Object, Feed}
use Rattle.ob_watch.specs.declared.item.Item.{Item}
use Rattle.ob_watch.specs.Items.{stamp_of}

-- no stamp is of a step to come
abbrev pub AreStampsPast : Stamped → Type 0
AreStampsPast t = (n : ℕ) → stamp_of t n ≤ t.steps

-- no mark is of a step to come
abbrev pub IsMarkPastBy : ℕ → Tracked → Type 0
IsMarkPastBy steps (Object node mark) = mark ≤ steps
IsMarkPastBy steps (Feed feed filter given) = Unit {0}

abbrev pub IsMarkPast : ℕ → Item → Type 0
IsMarkPast steps i = IsMarkPastBy steps i.tracked

-- an object that has changed has the stamp of the next step; else its stamp is as it was
abbrev pub IsStampedNextBy : Stamped → Stamped → Tracked → Bool → Type 0
IsStampedNextBy t u (Object node mark) changed = stamp_of u node.number ≡ cond changed (t.steps + 1) (stamp_of t node.number)
IsStampedNextBy t u (Feed feed filter given) changed = Unit {0}

abbrev pub IsStampedNext : Stamped → Stamped → Item → Bool → Type 0
IsStampedNext t u i changed = IsStampedNextBy t u i.tracked changed
