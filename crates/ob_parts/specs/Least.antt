-- The first of offences: that of the part with the least number, and of several at one part the first in the list.
use Rattle.std.specs.Prelude.{cond, nat_lt, List, [], ◌∷◌, Option, Some, None}
use Rattle.ob_parts.specs.declared.offence.Offence.{Offence}

-- the earlier of two offences; of two at one part the first one
abbrev pub first_of : {R : Type 0} → Offence R → Offence R → Offence R
first_of a b = cond (nat_lt b.part a.part) b a

-- the earlier of two offences, where there are any
abbrev pub earlier : {R : Type 0} → Option (Offence R) → Option (Offence R) → Option (Offence R)
earlier None b = b
earlier (Some a) None = Some a
earlier (Some a) (Some b) = Some (first_of a b)

-- the first of a list
abbrev pub least : {R : Type 0} → List (Offence R) → Option (Offence R)
least [] = None
least (o ∷ os) = earlier (Some o) (least os)
