-- Objects by their numbers in document order, the first being 0: where each stands, which is in which, and the nodes in one.
use Rattle.std.specs.Prelude.{◌≡◌, ℕ, zero, suc, ◌+◌, ◌-◌, false, cond, ◌&&◌, nat_lt, nat_le, [], Option, Some, None, option_map, option_and_then}
use Rattle.ob_object.specs.Object.{Objects, none, node, count, parts}
use Rattle.ob_object.specs.Paths.{is_path, node_path}
use Rattle.ob_contracts.specs.Inherit.{Contracts, or_else, only_if}
use Rattle.ob_site_rules.specs.Build.{Path}
use Rattle.ob_site_rules.specs.Shown.{dressed}
use Rattle.ob_site_rules.specs.State.{State}
use Rattle.ob_site_rules.specs.declared.plan.Plan.{Plan}
use Rattle.ob_tree.specs.Contexts.{HandedDown, handed_down, under}
use Rattle.ob_shown_laws.specs.Alike.{row}
use Rattle.ob_shown_laws.specs.Standing.{Standing, inside, standing_in, standing_at}
use Rattle.ob_shown_laws.specs.Changed.{is_round, PathsDiffer}

-- the number of the node at a path in a row, whose first object has the number 0
abbrev pub number_in : Path → Objects → Option ℕ
number_in p none = None
number_in p (node h below rest) =
    or_else (only_if (is_path p (node_path h)) (Some 0))
    (or_else (option_map (λ n. n + 1) (number_in p below)) (option_map (λ n. n + (count below + 1)) (number_in p rest)))

-- the object of a number, where it stands
abbrev pub numbered : ℕ → HandedDown → Objects → Option Standing
numbered n r none = None
numbered zero r (node h below rest) = Some (record { context = under r h.name; object = record { head = h; inner = below } })
numbered (suc n) r (node h below rest) =
    cond (nat_lt n (count below)) (numbered n (handed_down (under r h.name) h) below) (numbered (n - count below) r rest)

-- the number of the object that has this child, told by its number in the row of its children; 0 for the one that has the row
abbrev pub one_in : Option ℕ → ℕ
one_in None = 0
one_in (Some k) = k + 1

-- the number of the object whose child an object is, unless it is one of the row itself
abbrev pub parent_in : ℕ → Objects → Option ℕ
parent_in n none = None
parent_in zero (node h below rest) = None
parent_in (suc n) (node h below rest) =
    cond
    (nat_lt n (count below))
    (Some (one_in (parent_in n below)))
    (option_map (λ k. k + (count below + 1)) (parent_in (n - count below) rest))

-- what is handed down to the root of a site, which stands in no list and overrides nothing
abbrev pub root_row : Contracts → HandedDown
root_row lib = record { library = lib; implied = None; sources = [] }

-- A node is found by its number. A child stands inside the object that it is in. The nodes in an object are those whose
-- numbers are from its own on, as many as it has parts.
pub record NumbersTell (r : HandedDown) (os : Objects) : Type 0 where
  pub found : (p : Path) → standing_in p r os ≡ option_and_then (λ n. numbered n r os) (number_in p os)
  pub first : (n : ℕ) (x : Standing) → parent_in n os ≡ None → numbered n r os ≡ Some x → x.context ≡ under r x.object.head.name
  pub child : (n k : ℕ) (x y : Standing) → parent_in n os ≡ Some k → numbered k r os ≡ Some x → numbered n r os ≡ Some y
      → y ≡ inside x y.object
  pub round : PathsDiffer os → (p : Path) (n k : ℕ) (x : Standing) → number_in p os ≡ Some n → numbered k r os ≡ Some x
      → is_round p x.object ≡ (nat_le k n && nat_lt n (k + parts x.object))
  pub nowhere : (p : Path) (k : ℕ) (x : Standing) → number_in p os ≡ None → numbered k r os ≡ Some x → is_round p x.object ≡ false

-- and so in the root of a site
pub record SiteIsNumbered (plan : Plan) (s : State) : Type 0 where
  pub root : (p : Path) → standing_at plan s p ≡ standing_in p (root_row s.library) (row (dressed plan s))
  pub numbers : NumbersTell (root_row s.library) (row (dressed plan s))

-- law: of every state
abbrev pub SitesAreNumbered : Type 0
SitesAreNumbered = (plan : Plan) (s : State) → SiteIsNumbered plan s
