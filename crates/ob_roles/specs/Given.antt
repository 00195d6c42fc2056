-- What words give to the objects that have them.
use Rattle.std.specs.Prelude.{◌≡◌, ℕ, List, map, Option, Some, None}
use Rattle.std.specs.Option.{option_copied}
use denote.Ref.{Bor}
use Rattle.ob_object.specs.declared.head.Head.{Head}
use Rattle.ob_object.specs.Object.{Object}
use Rattle.ob_contracts.specs.Found.{found, Names}
use Rattle.ob_contracts.specs.Inherit.{Contracts, Words, contract_of, present, words_in, or_else, first_given, overridden}
use Rattle.ob_roles.specs.Kinds.{Are}
use Rattle.ob_roles.specs.declared.given.Given.{Given}
use Rattle.ob_roles.specs.declared.given.Above.{Above}

-- the contracts that words name
abbrev pub contracts_in : Contracts → Option Words → List Object
contracts_in lib ws = present (map (contract_of lib) (words_in ws))

pub record IsGiven (g : Given) (lib : Contracts) : Type 0 where
  pub is : Are g.is lib (words_in (option_copied g.words))
  pub of : option_copied g.of ≡ first_given (λ s. s.head.of) (contracts_in lib (option_copied g.words))
  pub names : (n : List ℕ) → found g.names n ≡ overridden (Some n) (contracts_in lib (option_copied g.words))

-- what is given by the words of an object: its own, or else those that its list or feed gives
pub record IsBase (g : Given) (lib : Contracts) (h : Head) (implied : Option Words) : Type 0 where
  pub given : IsGiven g lib
  pub words : option_copied g.words ≡ or_else h.is implied

-- the object of a name, if there is a name
abbrev pub found_by : Names → Option (List ℕ) → Option Object
found_by names None = None
found_by names (Some n) = found names n

-- the child of a name of the contracts, where there are any
abbrev pub based : Option (Bor Names) → Option (List ℕ) → Option Object
based None n = None
based (Some b) n = found_by b.now n

-- the children of sources are found by their names, those of the contracts first
pub record IsAbove (a : Above) (ss : List Object) : Type 0 where
  pub finds : (n : Option (List ℕ)) → or_else (based a.base n) (found_by a.over.now n) ≡ overridden n ss
