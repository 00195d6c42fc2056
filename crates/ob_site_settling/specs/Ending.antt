-- The end of a step on a tree of own objects: one more step is counted, and the nodes that show themselves otherwise are
-- touched. So a watch finds what it is to be told (oBIX 1.1, chapter 12, Watch.pollChanges).
use Rattle.std.specs.Prelude.{◌≡◌, ℕ, ◌+◌, true, false, not, List, filter, length, Some}
use Rattle.ob_object.specs.declared.head.Head.{Head}
use Rattle.ob_object.specs.Object.{Object, parts}
use Rattle.ob_site_rules.specs.Build.{Path}
use Rattle.ob_site_rules.specs.declared.plan.Plan.{Plan}
use Rattle.ob_site_rules.specs.State.{State, is_among}
use Rattle.ob_site_rules.specs.Shown.{dressed}
use Rattle.ob_shown_laws.specs.Alike.{row, DifferInValues}
use Rattle.ob_shown_laws.specs.Changed.{differs, is_watchable, PathsDiffer}
use Rattle.ob_shown_laws.specs.Looked.{IsLeft}
use Rattle.ob_tree.specs.Laid.{paths, head_at}
use Rattle.ob_tree.specs.Paths.{place_of}
use Rattle.ob_tree.specs.Trees.{Stamped}
use Rattle.ob_site_state.specs.Stamping.{after_step}
use Rattle.ob_shown_laws.specs.Following.{AreNumbers, is_same_watched}
use Rattle.ob_watching.specs.Watches.{settled}
use Rattle.ob_watch.specs.declared.item.Tracked.{Tracked}
use Rattle.ob_watch.specs.declared.item.Tracked.TheVariants as tracked
use Rattle.ob_watch.specs.declared.item.Item.{Item}
use Rattle.ob_watch.specs.OfPlan.{of_plan}
use Rattle.ob_watch.specs.Flags.{flags}
use Rattle.ob_watch.specs.Marks.{IsMarkPast, IsStampedNext}

-- These are the numbers of exactly the own nodes that show themselves otherwise in the second state, of those that a step
-- looked at; and it left every other path alone.
pub record AreChanged (plan : Plan) (s t : State) (ns : List ℕ) : Type 0 where
  pub looked : List Path
  pub left : (p : Path) → is_among p looked ≡ false → IsLeft plan s t p
  pub numbers : AreNumbers s.tree (filter (differs plan s t) looked) ns

-- what is kept of an own node is kept under its number, and the node can be watched
abbrev pub IsOwnBy : Object → Path → Tracked → Type 0
IsOwnBy o p (tracked.Object node mark) =
    (place_of p (paths o) ≡ Some node.number) × ((h : Head) → head_at node.number o ≡ Some h → is_watchable h ≡ true)
IsOwnBy o p (tracked.Feed feed filter given) = Unit {0}

abbrev pub IsOwn : Object → Item → Type 0
IsOwn o i = IsOwnBy o i.path i.tracked

-- After such a step each item is as the rules of watches have it: an object is to be reported where it was before, or what a
-- watch shows of it has changed; and no stamp and no mark is of a step to come.
pub record Settles (plan : Plan) (s t : State) (ns : List ℕ) (tree : Stamped) : Type 0 where
  pub stamps : (i : Item) → IsOwn s.tree i → IsStampedNext tree (after_step ns tree) i (not (is_same_watched plan s t i.path))
  pub settles : (i : Item) → IsOwn s.tree i → IsMarkPast tree.steps i
      → settled (of_plan plan) s t (flags tree i) ≡ flags (after_step ns tree) i
  pub marks : (i : Item) → IsMarkPast tree.steps i → IsMarkPast (after_step ns tree).steps i
  pub root : (after_step ns tree).root ≡ tree.root
  pub steps : (after_step ns tree).steps ≡ tree.steps + 1

-- so for each step that changes values alone
abbrev pub StepsEnd : Type 0
StepsEnd = (plan : Plan) (s t : State) → DifferInValues s t → PathsDiffer (row (dressed plan s)) → (ns : List ℕ)
    → AreChanged plan s t ns → (tree : Stamped) → tree.root ≡ t.tree → length tree.stamps ≡ parts tree.root
    → Settles plan s t ns tree
