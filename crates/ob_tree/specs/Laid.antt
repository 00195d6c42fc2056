-- The objects of a tree in document order, and where each of them stands.
use Rattle.std.specs.Prelude.{◌≡◌, ℕ, zero, suc, ◌+◌, ◌-◌, nat_lt, cond, List, [], ◌∷◌, ◌++◌, take, drop, map, slice_get, Option, Some, None, option_and_then}
use Rattle.std.specs.List.{AllByRecursion}
use Rattle.ob_object.specs.declared.kind.Kind.TheVariants as kind
use Rattle.ob_object.specs.declared.head.Head.{Head}
use Rattle.ob_object.specs.Object.{Objects, none, node, Object, count, in_row, empty_head}
use Rattle.ob_object.specs.Paths.{node_path}
use Rattle.ob_tree.specs.declared.spot.Spot.{Spot}
use Rattle.ob_tree.specs.Paths.{Path}

abbrev pub object : Head → Objects → Object
object h inner = record { head = h; inner = inner }

-- an object without its children
abbrev pub leaf : Head → Object
leaf h = object h none

-- what objects say of themselves
abbrev pub said : List Object → List Head
said os = map (λ o. o.head) os

-- objects that have no children
abbrev pub AreLeaves : List Object → Type 0
AreLeaves os = AllByRecursion (λ o. o.inner ≡ none) os

-- what each object of a row says of itself, in document order
abbrev pub heads : Objects → List Head
heads none = []
heads (node h inner rest) = h ∷ (heads inner ++ heads rest)

-- what an object and each object in it say of themselves
abbrev pub heads_of : Object → List Head
heads_of o = o.head ∷ heads o.inner

-- how many objects stand side by side
abbrev pub width : Objects → ℕ
width none = 0
width (node h inner rest) = width rest + 1

-- where an object stands that has this number, is in that object, and has these objects in it
abbrev pub spot : ℕ → Option ℕ → Objects → Spot
spot at parent inner = record { parent = parent; len = width inner; end = at + (count inner + 1) }

-- where each object of a row stands; the first has this number, and the row is in that object
abbrev pub spots : ℕ → Option ℕ → Objects → List Spot
spots at parent none = []
spots at parent (node h inner rest) =
    spot at parent inner ∷ (spots (at + 1) (Some at) inner ++ spots (at + (count inner + 1)) parent rest)

-- where an object and each object in it stand
abbrev pub spots_of : ℕ → Option ℕ → Object → List Spot
spots_of at parent o = spot at parent o.inner ∷ spots (at + 1) (Some at) o.inner

-- The objects side by side that heads in document order stand for: from the last on, each takes as many of the objects
-- behind it as it has children.
abbrev pub read : List Head → List Spot → List Object
read [] ss = []
read (h ∷ hs) [] = []
read (h ∷ hs) (s ∷ ss) = object h (in_row (take s.len (read hs ss))) ∷ drop s.len (read hs ss)

abbrev pub first_object : List Object → Object
first_object [] = object (empty_head kind.Obj) none
first_object (o ∷ os) = o

abbrev pub object_of : List Head → List Spot → Object
object_of hs ss = first_object (read hs ss)

-- what the object of a number says of itself
abbrev pub head_at : ℕ → Object → Option Head
head_at n o = slice_get (heads_of o) n

-- the number of the object that the object of a number is in
abbrev pub parent_at : ℕ → Object → Option ℕ
parent_at n o = option_and_then (λ s. s.parent) (slice_get (spots_of 0 None o) n)

-- the paths of the objects, in document order
abbrev pub paths : Object → List (Option Path)
paths o = map node_path (heads_of o)

-- the objects of a row, one of which, told by its number, says something else of itself
abbrev pub changed_in : (Head → Head) → ℕ → Objects → Objects
changed_in f n none = none
changed_in f zero (node h inner rest) = node (f h) inner rest
changed_in f (suc n) (node h inner rest) =
    cond (nat_lt n (count inner)) (node h (changed_in f n inner) rest) (node h inner (changed_in f (n - count inner) rest))

abbrev pub changed : (Head → Head) → ℕ → Object → Object
changed f zero o = object (f o.head) o.inner
changed f (suc n) o = object o.head (changed_in f n o.inner)
