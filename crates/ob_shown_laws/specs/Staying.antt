-- Which heads of the dressed root a step leaves as they are, by the numbers of the objects in document order.
use Rattle.std.specs.Prelude.{◌≡◌, ℕ, zero, suc, ◌-◌, Bool, false, cond, nat_lt, List, Option, Some, None}
use Rattle.ob_object.specs.declared.head.Head.{Head}
use Rattle.ob_object.specs.Object.{Objects, none, node, Object, count}
use Rattle.ob_object.specs.Paths.{node_path}
use Rattle.ob_contracts.specs.Inherit.{or_else}
use Rattle.ob_site_rules.specs.Build.{Path}
use Rattle.ob_site_rules.specs.Shown.{dressed}
use Rattle.ob_site_rules.specs.State.{State, is_among}
use Rattle.ob_site_rules.specs.declared.plan.Plan.{Plan}
use Rattle.ob_shown_laws.specs.Alike.{row, AreAlike, DifferInValues}
use Rattle.ob_shown_laws.specs.Looked.{IsLeft}

-- what the object of a number says of itself
abbrev pub head_no : ℕ → Objects → Option Head
head_no n none = None
head_no zero (node h below rest) = Some h
head_no (suc n) (node h below rest) = cond (nat_lt n (count below)) (head_no n below) (head_no (n - count below) rest)

-- the path of the node that the object of a number is, or is next in
abbrev pub owner_no : Option Path → ℕ → Objects → Option Path
owner_no owner n none = None
owner_no owner zero (node h below rest) = or_else (node_path h) owner
owner_no owner (suc n) (node h below rest) =
    cond (nat_lt n (count below)) (owner_no (or_else (node_path h) owner) n below) (owner_no owner (n - count below) rest)

-- a node of this path was looked at
abbrev pub is_looked : List Path → Option Path → Bool
is_looked looked None = false
is_looked looked (Some p) = is_among p looked

-- A step that left every path alone but those that it looked at leaves the head of each object whose node isn't one of
-- those; and the roots are one where all heads are.
pub record HeadsStay (plan : Plan) (s t : State) : Type 0 where
  pub stays : (looked : List Path) → ((p : Path) → is_among p looked ≡ false → IsLeft plan s t p)
      → (n : ℕ) → is_looked looked (owner_no None n (row (dressed plan s))) ≡ false
      → head_no n (row (dressed plan s)) ≡ head_no n (row (dressed plan t))
  pub alike : AreAlike (row (dressed plan s)) (row (dressed plan t))
  pub same : (o : Object) → AreAlike (row o) (row (dressed plan t))
      → ((n : ℕ) → head_no n (row o) ≡ head_no n (row (dressed plan t))) → o ≡ dressed plan t

-- law: of every two states that differ in values alone
abbrev pub DressedStays : Type 0
DressedStays = (plan : Plan) (s t : State) → DifferInValues s t → HeadsStay plan s t
