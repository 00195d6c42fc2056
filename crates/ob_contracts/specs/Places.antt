-- What an object may inherit from, lent.
use Rattle.std.specs.Prelude.{ℕ, cond, List, [], ◌∷◌, ◌++◌, map, Option, Some, None}
use Rattle.std.specs.Option.{option_copied}
use Rattle.ob_object.specs.declared.kind.Kind.{Kind}
use Rattle.ob_object.specs.Kinds.{is_ref}
use Rattle.ob_object.specs.Object.{Object}
use Rattle.ob_contracts.specs.Inherit.{Contracts, Words, contract_of, or_else, overridden, present}
use Rattle.ob_contracts.specs.Tellers.{Telling, told_child}
use Rattle.ob_contracts.specs.declared.lookup.Sources.{Sources}

-- for an object of a kind: the contract of each of these words, where it names one, and then the child that it overrides; a ref has
-- none
abbrev pub places_by : Contracts → Kind → Words → Option Object → List (Option Object)
places_by lib k ws over = cond (is_ref k) [] (map (contract_of lib) ws ++ over ∷ [])

abbrev pub sources_by : Contracts → Kind → Words → Option Object → List Object
sources_by lib k ws over = present (places_by lib k ws over)

-- the same, of those that are lent
abbrev pub places_of : Sources → List (Option Object)
places_of s = cond s.any (map (contract_of s.library.now) s.words.now ++ option_copied s.over ∷ []) []

abbrev pub sources_of : Sources → List Object
sources_of s = present (places_of s)

-- the child of a name in the first of these sources that has one; where words are told, in the contract of the one for that name,
-- or else in the child that is overridden
abbrev pub named_in : Contracts → Option Telling → List Object → Option Object → List ℕ → Option Object
named_in lib None ss over n = overridden (Some n) ss
named_in lib (Some t) ss over n = or_else (told_child lib t n) (overridden (Some n) (present (over ∷ [])))

abbrev pub child_in : Sources → List ℕ → Option Object
child_in s n = named_in s.library.now (option_copied s.told) (sources_of s) (option_copied s.over) n

-- the child that an own child of a name overrides
abbrev pub overridden_in : Sources → Option (List ℕ) → Option Object
overridden_in s None = None
overridden_in s (Some n) = child_in s n
