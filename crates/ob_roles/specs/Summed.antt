-- One object in place of many contracts.
use Rattle.std.specs.Prelude.{◌≡◌, ℕ, Bool, true, not, ◌&&◌, cond, List, [], ◌∷◌, ◌++◌, map, Option, Some, None, is_some}
use Rattle.ob_object.specs.declared.head.Head.{Head}
use Rattle.ob_object.specs.Kinds.{is_ref}
use Rattle.ob_object.specs.Object.{Object, children}
use Rattle.ob_object.specs.WellFormed.{is_taken, with_child}
use Rattle.ob_contracts.specs.Found.{Names, found}
use Rattle.ob_contracts.specs.Inherit.{Contracts, Words, contract_of, present, first_given, is_new, missing}
use Rattle.ob_roles.specs.Given.{contracts_in}

-- the names of an object's children are those that are found
abbrev pub HasNames : Names → Object → Type 0
HasNames names o = (n : List ℕ) → is_some (found names n) ≡ is_taken (Some n) (children o)

-- a child stands last, if it has a name that was new
abbrev pub IsPutIfNew : Object → Object → Object → Type 0
IsPutIfNew old new child = new ≡ cond (is_new (children old) child) (with_child old child) old

-- the first `of` among some sources, and their children, the first of each name
pub record IsSum (s : Object) (ss : List Object) : Type 0 where
  pub of : s.head.of ≡ first_given (λ x. x.head.of) ss
  pub all : children s ≡ missing [] ss

-- in place of no sources there is none
abbrev pub SumsUp : Option Object → List Object → Type 0
SumsUp None ss = ss ≡ []
SumsUp (Some s) ss = IsSum s ss

-- whether an object takes from the contracts of the words that its list or feed gives it
abbrev pub takes_given : Head → Bool
takes_given h = not (is_some h.is) && not (is_ref h.kind)

-- what a list or a feed gives to an object in place of the contracts of these words
abbrev pub IsGivenBy : Option Object → Contracts → Head → Option Words → Type 0
IsGivenBy sum lib h implied = takes_given h ≡ true → SumsUp sum (contracts_in lib implied)

-- the contracts of an object's own words, or else what it is given
abbrev pub given_from : Contracts → Option Words → Option Object → List Object
given_from lib None sum = present (sum ∷ [])
given_from lib (Some ws) sum = present (map (contract_of lib) ws)

-- what an object takes from that is given this, and overrides a child
abbrev pub taken_from : Contracts → Head → Option Object → Option Object → List Object
taken_from lib h sum over = cond (is_ref h.kind) [] (given_from lib h.is sum ++ present (over ∷ []))
