-- How many objects are round an object.
use Rattle.std.specs.Prelude.{ℕ, zero, suc, ◌+◌, ◌-◌, ◌<◌, nat_lt, cond, max}
use Rattle.ob_object.specs.Object.{Objects, none, node, Object, count, parts}
use Rattle.ob_tree.specs.Shown.{row}

-- how many objects of a row, at every depth, have the object of a number in them
abbrev pub depth_in : ℕ → Objects → ℕ
depth_in n none = 0
depth_in zero (node h inner rest) = 0
depth_in (suc n) (node h inner rest) = cond (nat_lt n (count inner)) (depth_in n inner + 1) (depth_in (n - count inner) rest)

abbrev pub depth_at : ℕ → Object → ℕ
depth_at n o = depth_in n (row o)

-- on how many levels the objects of a row stand, itself being the first
abbrev pub levels : Objects → ℕ
levels none = 0
levels (node h inner rest) = max (levels inner + 1) (levels rest)

-- Round an object are fewer objects than there are levels.
abbrev pub DepthsAreLevels : Type 0
DepthsAreLevels = (o : Object) (n : ℕ) → n < parts o → depth_at n o < levels (row o)
