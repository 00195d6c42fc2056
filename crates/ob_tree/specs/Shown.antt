-- What is shown at an object: all that it inherits where it stands.
use Rattle.std.specs.Prelude.{◌≡◌, ℕ, zero, suc, ◌-◌, nat_lt, cond, List, [], Option, Some, None, option_map}
use Rattle.ob_object.specs.declared.head.Head.{Head}
use Rattle.ob_object.specs.Object.{Objects, none, node, Object, count}
use Rattle.ob_object.specs.WellFormed.{IsWellFormed}
use Rattle.ob_contracts.specs.Inherit.{Contracts}
use Rattle.ob_tree.specs.Contexts.{Context, HandedDown, handed_down, under, comes_to}
use Rattle.ob_tree.specs.declared.spot.Spot.{Spot}
use Rattle.ob_tree.specs.Laid.{object, heads_of, spots_of, object_of, head_at}

-- an object as a row of one
abbrev pub row : Object → Objects
row o = node o.head o.inner none

-- the object of a number in a row, with all that is in it
abbrev pub part_in : ℕ → Objects → Option Object
part_in n none = None
part_in zero (node h inner rest) = Some (object h inner)
part_in (suc n) (node h inner rest) = cond (nat_lt n (count inner)) (part_in n inner) (part_in (n - count inner) rest)

abbrev pub part_at : ℕ → Object → Option Object
part_at n o = part_in n (row o)

-- what is handed down to the root
abbrev pub at_top : Contracts → HandedDown
at_top lib = record { library = lib; implied = None; sources = [] }

-- what an object hands down where it is handed this
abbrev pub handed : HandedDown → Head → HandedDown
handed r h = handed_down (under r h.name) h

-- what is handed down to the object of a number in a row
abbrev pub handed_in : HandedDown → ℕ → Objects → HandedDown
handed_in r n none = r
handed_in r zero (node h inner rest) = r
handed_in r (suc n) (node h inner rest) =
    cond (nat_lt n (count inner)) (handed_in (handed r h) n inner) (handed_in r (n - count inner) rest)

abbrev pub handed_at : Contracts → ℕ → Object → HandedDown
handed_at lib n o = handed_in (at_top lib) n (row o)

-- where the object of a number stands
abbrev pub standing_at : Contracts → ℕ → Object → Option Context
standing_at lib n o = option_map (λ h. under (handed_at lib n o) h.name) (head_at n o)

abbrev pub effective_in : HandedDown → Object → Object
effective_in r o = comes_to (under r o.head.name) o

-- the effective object of the object of a number, where it stands
abbrev pub shown_at : Contracts → ℕ → Object → Option Object
shown_at lib n o = option_map (effective_in (handed_at lib n o)) (part_at n o)

-- heads and spots that are those of a well-formed object
pub record AreLaid (hs : List Head) (ss : List Spot) : Type 0 where
  pub heads_are : hs ≡ heads_of (object_of hs ss)
  pub spots_are : ss ≡ spots_of 0 None (object_of hs ss)
  pub well_formed : IsWellFormed (object_of hs ss)
