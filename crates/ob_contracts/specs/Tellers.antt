-- Words that are looked up in place of many.
use Rattle.std.specs.Prelude.{◌≡◌, ℕ, true, List, ◌++◌, Option, Some, None, is_some, option_and_then, refl}
use Rattle.std.specs.Option.{ForSome}
use Rattle.std.specs.Coded.{Coded, code_by, coded×, coded_ℕ, coded_list}
use Rattle.std.specs.Map.{lookup}
use Rattle.std.specs.Str.{bytes_eq}
use Rattle.ob_object.specs.declared.kind.Kind.{Kind}
use Rattle.ob_object.specs.declared.head.Head.{Head}
use Rattle.ob_object.specs.Object.{Object, children}
use Rattle.ob_object.specs.WellFormed.{named}
use Rattle.ob_contracts.specs.Inherit.{Contracts, Words, contract_of, words_in, overridden, inherited_head}
use Rattle.ob_contracts.specs.Telling.{StandFor, has_one, named_by}
use Rattle.ob_contracts.specs.declared.reading.Part.{Part}

-- words of which each tells something that none before it does, those that tell a part of a head, and the names of the children
-- of their contracts, each with the word of the first that has one
pub record Telling : Type 0 where
  pub all : Words
  pub heads : Words
  pub names : List (List ℕ × List ℕ)

abbrev pub telling_code : Coded Telling
telling_code =
    let text = coded_list coded_ℕ in
    code_by (Words × (Words × List (List ℕ × List ℕ))) (coded× (coded_list text) (coded× (coded_list text) (coded_list (coded× text text))))
    (λ t. (t.all, (t.heads, t.names))) (λ p. record { all = p.0; heads = p.1.0; names = p.1.1 }) (λ _. refl)

-- the word that is told for a name
abbrev pub word_for : Telling → List ℕ → Option (List ℕ)
word_for t n = lookup (bytes_eq n) t.names

-- the child of a name in the contract of a word
abbrev pub child_by : Contracts → List ℕ → List ℕ → Option Object
child_by lib n w = option_and_then (λ c. named n (children c)) (contract_of lib w)

-- and in the contract of the word that is told for it
abbrev pub told_child : Contracts → Telling → List ℕ → Option Object
told_child lib t n = option_and_then (child_by lib n) (word_for t n)

-- words by which a head takes the same as by others, in front of any sources
abbrev pub HeadsFor : Contracts → Words → Words → Type 0
HeadsFor lib ts ws = (h : Head) (R : List Object) → inherited_head h (named_by lib ts ++ R) ≡ inherited_head h (named_by lib ws ++ R)

-- what is told may be looked up in place of these words
pub record TellsFor (lib : Contracts) (t : Telling) (ws : Words) : Type 0 where
  pub all : StandFor lib t.all ws
  pub heads : HeadsFor lib t.heads ws
  pub names : (n : List ℕ) → told_child lib t n ≡ overridden (Some n) (named_by lib ws)

-- so where something is told
abbrev pub TellsIn : Contracts → Option Telling → Option Words → Type 0
TellsIn lib told words = ForSome told (λ t. TellsFor lib t (words_in words))

-- the words that are looked up for a head
abbrev pub heads_in : Option Telling → Option Words → Words
heads_in None words = words_in words
heads_in (Some t) words = t.heads

-- words by which a head takes the same as by those that were looked at, and the parts that these objects tell are told by them
pub record IsHeadTelling (lib : Contracts) (telling looked : Words) (H : List Object) : Type 0 where
  pub stand : HeadsFor lib telling looked
  pub knows : (k : Kind) (p : Part) → has_one H k p ≡ true → has_one (named_by lib telling) k p ≡ true

-- for each name of a child of these objects the word of the first that has one is known, and no word for another name
pub record AreWords (lib : Contracts) (known : List ℕ → Option (List ℕ)) (P : List Object) : Type 0 where
  pub gives : (n : List ℕ) → option_and_then (child_by lib n) (known n) ≡ overridden (Some n) P
  pub there : (n : List ℕ) → is_some (known n) ≡ is_some (overridden (Some n) P)
