-- What a tree in document order is to the site.
use Rattle.std.specs.Prelude.{◌≡◌, ℕ, ◌+◌, ◌&&◌, nat_le, nat_lt, [], Some, None, option_and_then}
use Rattle.ob_object.specs.declared.head.Slot.{Slot}
use Rattle.ob_object.specs.Object.{Object, parts}
use Rattle.ob_site_rules.specs.Build.{Path}
use Rattle.ob_site_rules.specs.declared.plan.Plan.{Plan}
use Rattle.ob_site_rules.specs.State.{State}
use Rattle.ob_site_rules.specs.Shown.{dressed, shown}
use Rattle.ob_site_rules.specs.Writes.{with_slot}
use Rattle.ob_shown_laws.specs.Changed.{is_round, PathsDiffer}
use Rattle.ob_tree.specs.Shown.{row, part_at, shown_at}
use Rattle.ob_tree.specs.Laid.{paths, changed}
use Rattle.ob_tree.specs.Paths.{place_of, first_twice}

-- What a site shows at a path is what is shown at the object that is the node of that path, by its number, in the root with
-- the children that roles derive and the status of each source.
abbrev pub TreeShows : Type 0
TreeShows = (plan : Plan) (s : State) (p : Path)
    → shown plan s p ≡ option_and_then (λ n. shown_at s.library n (dressed plan s)) (place_of p (paths (dressed plan s)))

-- Where no node has a path that a node before it has, the nodes have different paths.
abbrev pub PathsAreDifferent : Type 0
PathsAreDifferent = (o : Object) → first_twice [] (paths o) ≡ None → PathsDiffer (row o)

-- Setting the slot of the object of a number is setting that of the node of its path.
abbrev pub SlotIsSet : Type 0
SlotIsSet = (o : Object) (p : Path) (n : ℕ) (slot : Slot) → first_twice [] (paths o) ≡ None → place_of p (paths o) ≡ Some n
    → changed (λ h. record h { slot = slot }) n o ≡ with_slot p slot o

-- The nodes in an object are those whose numbers are from its own on, as many as it has parts.
abbrev pub NodesAreNumbered : Type 0
NodesAreNumbered = (o x : Object) (p : Path) (n k : ℕ) → first_twice [] (paths o) ≡ None → place_of p (paths o) ≡ Some n
    → part_at k o ≡ Some x → is_round p x ≡ (nat_le k n && nat_lt n (k + parts x))
