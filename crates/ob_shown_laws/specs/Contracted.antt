-- The contracts of a site by their numbers in the tree of its own objects.
use Rattle.std.specs.Prelude.{◌≡◌, ℕ, ◌+◌, ◌&&◌, Bool, false, cond, nat_le, nat_lt, codes, List, [], ◌∷◌, ◌++◌, Option, Some, None, is_some}
use Rattle.std.specs.List.{list_any}
use Rattle.ob_object.specs.Object.{Objects, none, node, Object, count, parts}
use Rattle.ob_object.specs.Paths.{node_path}
use Rattle.ob_site_rules.specs.Build.{Path}
use Rattle.ob_site_rules.specs.Writes.{is_in_contract}
use Rattle.ob_tree.specs.Children.{child_at}
use Rattle.ob_tree.specs.Laid.{paths}
use Rattle.ob_tree.specs.Paths.{place_of, first_twice}
use Rattle.ob_tree.specs.Shown.{part_at}

-- the numbers of the nodes that stand side by side in a row, whose first object has this number
abbrev pub nodes_from : ℕ → Objects → List ℕ
nodes_from at none = []
nodes_from at (node h inner rest) = cond (is_some (node_path h)) (at ∷ []) [] ++ nodes_from (at + (count inner + 1)) rest

-- the numbers of the nodes in an object of this number, if it is there
abbrev pub nodes_in : ℕ → Option Object → List ℕ
nodes_in k None = []
nodes_in k (Some x) = nodes_from (k + 1) x.inner

-- the numbers of the nodes in the object of a number, if there is one
abbrev pub nodes_below : Object → Option ℕ → List ℕ
nodes_below o None = []
nodes_below o (Some k) = nodes_in k (part_at k o)

-- the numbers of a site's contracts: the children of the root's own child `contracts` that are nodes
abbrev pub contract_numbers : Object → List ℕ
contract_numbers o = nodes_below o (child_at 0 (codes "contracts") o)

-- an object, told by its number, is another one or in it
abbrev pub is_within : ℕ → ℕ → Option Object → Bool
is_within n k None = false
is_within n k (Some x) = nat_le k n && nat_lt n (k + parts x)

-- whether an object's number is that of one inside another
abbrev pub is_inside : ℕ → ℕ → Object → Bool
is_inside n k o = is_within n k (part_at k o)

-- Whether a node is a contract or a part of one is told by its number.
abbrev pub ContractsAreNumbered : Type 0
ContractsAreNumbered = (o : Object) (p : Path) (n : ℕ) → first_twice [] (paths o) ≡ None → place_of p (paths o) ≡ Some n
    → is_in_contract p o ≡ list_any (λ k. is_inside n k o) (contract_numbers o)
