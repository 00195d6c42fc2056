-- Names, in no order.
use Rattle.std.specs.Prelude.{◌≡◌, ℕ, List, Option, Some, None}
use Rattle.std.specs.Ordering.{nat_cmp}
use Rattle.std.specs.Cmp.Lexicographic.{slice_cmp}
use Rattle.std.specs.FinSet as set
use Rattle.ob_object.specs.Object.{Object}
use Rattle.ob_object.specs.WellFormed.{is_taken}

abbrev pub NameSet : Type 0
NameSet = set.FinSet (slice_cmp nat_cmp)

-- the names of the objects
abbrev pub IsIndex : NameSet → List Object → Type 0
IsIndex names os = (n : List ℕ) → set.contains names n ≡ is_taken (Some n) os

-- the names with one more, if there is one
abbrev pub with_name : Option (List ℕ) → NameSet → NameSet
with_name None names = names
with_name (Some name) names = set.insert names name
