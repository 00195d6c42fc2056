-- Few words in place of many, which tell the same of what roles ask for.
use Rattle.std.specs.Prelude.{◌≡◌, ℕ, codes, List, [], ◌∷◌, ◌++◌, map, find, Option, option_map}
use Rattle.std.specs.Option.{option_copied}
use Rattle.ob_object.specs.Object.{Object, Objects, none, node}
use Rattle.ob_contracts.specs.Inherit.{Contracts, Words, present}
use Rattle.ob_contracts.specs.Ancestry.{is_a}
use Rattle.ob_roles.specs.declared.few.Firsts.{Firsts}

-- the first of words that is one of what is asked for
abbrev pub first_that : Contracts → Words → List ℕ → Option (List ℕ)
first_that lib ws asked = find (λ w. is_a lib (w ∷ []) asked) ws

-- of each contract that roles ask for, the first of the words that is one
unfoldable pub few_words : Contracts → Words → Words
few_words lib ws =
    ((present (first_that lib ws (codes "obix:Lobby") ∷ []) ++ present (first_that lib ws (codes "obix:WritablePoint") ∷ []))
    ++ present (first_that lib ws (codes "obix:History") ∷ []))
    ++ present (first_that lib ws (codes "obix:AlarmSubject") ∷ [])

-- the same, each by itself
pub record AreFirst (f : Firsts) (lib : Contracts) (ws : Words) : Type 0 where
  pub lobby : option_copied f.lobby ≡ first_that lib ws (codes "obix:Lobby")
  pub point : option_copied f.point ≡ first_that lib ws (codes "obix:WritablePoint")
  pub history : option_copied f.history ≡ first_that lib ws (codes "obix:History")
  pub subject : option_copied f.subject ≡ first_that lib ws (codes "obix:AlarmSubject")

-- a row in which each object has few words as `is`
abbrev pub brief_row : Contracts → Objects → Objects
brief_row lib none = none
brief_row lib (node h below rest) = node (record h { is = option_map (few_words lib) h.is }) (brief_row lib below) (brief_row lib rest)

-- an object with these words as `is`, and with few words at each part
abbrev pub briefly : Contracts → Option Words → Object → Object
briefly lib ws o = record { head = record o.head { is = ws }; inner = brief_row lib o.inner }

abbrev pub brief : Contracts → Object → Object
brief lib o = briefly lib (option_map (few_words lib) o.head.is) o

-- contracts with their own words, and with few words at each part
abbrev pub brief_contracts : Contracts → Contracts → Contracts
brief_contracts lib cs = map (λ c. (c.0, briefly lib c.1.head.is c.1)) cs
