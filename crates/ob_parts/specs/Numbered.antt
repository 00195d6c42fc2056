-- The objects of a document with their numbers.
use Rattle.std.specs.Prelude.{ℕ, ◌+◌, ◌-◌, ◌^◌, min, List, [], ◌∷◌, Option, find, option_map, unwrap_or}
use Rattle.ob_object.specs.Object.{Object, children, parts}
use Rattle.ob_object.specs.WellFormed.{has_name}

-- an object of a document, with its number: the root has 0, and the others follow in document order
pub record Part : Type 0 where
  pub number : ℕ
  pub object : Object

-- the number so many parts behind another; numbers stand still at the last of 64 bits
abbrev pub plus : ℕ → ℕ → ℕ
plus number more = min (number + more) (2 ^ 64 - 1)

-- objects side by side, of which the first has this number
abbrev pub numbered_from : ℕ → List Object → List Part
numbered_from n [] = []
numbered_from n (o ∷ os) = record { number = n; object = o } ∷ numbered_from (plus n (parts o)) os

-- the children of an object
abbrev pub inside : Part → List Part
inside p = numbered_from (plus p.number 1) (children p.object)

-- the child of a name; no two have one
abbrev pub child : List ℕ → Part → Option Part
child name p = find (λ c. has_name name c.object.head.name) (inside p)

-- the parts in the child of a name, if it is there
abbrev pub inside_child : List ℕ → Part → List Part
inside_child name p = unwrap_or (option_map inside (child name p)) []

abbrev pub root : Object → Part
root o = record { number = 0; object = o }
