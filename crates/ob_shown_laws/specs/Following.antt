-- Stamps in a tree of own objects follow what a watch shows.
use Rattle.std.specs.Prelude.{◌≡◌, ℕ, Bool, true, false, cond, List, [], ◌∷◌, filter, length, map, Some, option_map, slice_get}
use Rattle.ob_object.specs.declared.head.Head.{Head}
use Rattle.ob_object.specs.Object.{Object, parts}
use Rattle.ob_site_rules.specs.Build.{Path}
use Rattle.ob_site_rules.specs.declared.plan.Plan.{Plan}
use Rattle.ob_site_rules.specs.State.{State, is_among}
use Rattle.ob_site_rules.specs.Shown.{dressed}
use Rattle.ob_site_rules.specs.Sameness.{same_object}
use Rattle.ob_site_rules.specs.Sites.{watched_object}
use Rattle.ob_shown_laws.specs.Alike.{row, DifferInValues}
use Rattle.ob_shown_laws.specs.Changed.{differs, is_watchable, PathsDiffer}
use Rattle.ob_shown_laws.specs.Looked.{IsLeft}
use Rattle.ob_tree.specs.Laid.{paths, head_at}
use Rattle.ob_tree.specs.Paths.{place_of}
use Rattle.ob_tree.specs.Trees.{Stamped}
use Rattle.ob_tree.specs.LastTouch.{Touches, all_done}

-- these are the numbers of the nodes of these paths, one by one
abbrev pub AreNumbers : Object → List Path → List ℕ → Type 0
AreNumbers o [] [] = Unit {0}
AreNumbers o [] (n ∷ ns) = ⊥
AreNumbers o (p ∷ ps) [] = ⊥
AreNumbers o (p ∷ ps) (n ∷ ns) = (place_of p (paths o) ≡ Some n) × AreNumbers o ps ns

-- what a watch shows of a node is the same in both states
abbrev pub is_same_watched : Plan → State → State → Path → Bool
is_same_watched plan s t p = same_object (watched_object plan s p) (watched_object plan t p)

-- A step left every path alone but those that it looked at, and touches those of them whose nodes show themselves otherwise.
-- Then the stamp of each own node that can be watched is the number of the step where what a watch shows of it has changed, and
-- as before where it hasn't.
abbrev pub StampsFollow : Type 0
StampsFollow = (plan : Plan) (s t : State) → DifferInValues s t → PathsDiffer (row (dressed plan s))
    → (looked : List Path) → ((p : Path) → is_among p looked ≡ false → IsLeft plan s t p)
    → (ns : List ℕ) → AreNumbers s.tree (filter (differs plan s t) looked) ns
    → (tree : Stamped) → tree.root ≡ t.tree → length tree.stamps ≡ parts tree.root
    → (p : Path) (n : ℕ) (h : Head) → place_of p (paths s.tree) ≡ Some n → head_at n s.tree ≡ Some h → is_watchable h ≡ true
    → slice_get (all_done (map Touches ns) tree).stamps n
    ≡ option_map (λ old. cond (is_same_watched plan s t p) old tree.steps) (slice_get tree.stamps n)
