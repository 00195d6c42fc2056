-- What becomes of a library of which a contract has another own object.
use Rattle.std.specs.Prelude.{◌≡◌, ℕ, zero, suc, Bool, true, false, List, [], ◌∷◌, ◌++◌, Option, Some, None, map, length, take, drop, slice_get, Result}
use Rattle.std.specs.declared.result.Result.TheVariants.{Ok}
use Rattle.ob_contracts.specs.Inherit.{Contracts, Words, contract_of, result_of}
use Rattle.ob_object.specs.Object.{Object}
use Rattle.ob_contracts.specs.Adding.{added, names_word}
use Rattle.ob_contracts.specs.Standard.{with_added}
use Rattle.ob_contracts.specs.Ties.{is_marked}

-- each word for which a test holds names the same contract in both libraries
abbrev pub Agree : Contracts → Contracts → (List ℕ → Bool) → Type 0
Agree lib new names = (w : List ℕ) → names w ≡ true → contract_of new w ≡ contract_of lib w

-- the words of contracts, in their order
abbrev pub uris : Contracts → Words
uris lib = map (λ c. c.0) lib

-- contracts that a library takes one after another
abbrev pub AreTaken : Contracts → Contracts → Type 0
AreTaken lib [] = Unit {0}
AreTaken lib (c ∷ cs) =
    let more : Contracts = lib ++ (c.0, result_of lib c.1 None None) ∷ [] in (added lib c.0 c.1 ≡ Ok more) × AreTaken more cs

-- an object names, at every depth, words alone for which a test holds
abbrev pub NamesOnly : (List ℕ → Bool) → Object → Type 0
NamesOnly good o = (w : List ℕ) → names_word w o ≡ true → good w ≡ true

abbrev pub MayName : (List ℕ → Bool) → Option Object → Type 0
MayName good None = Unit {0}
MayName good (Some o) = NamesOnly good o

-- so does the contract of each word for which it holds
abbrev pub Closed : (List ℕ → Bool) → Contracts → Type 0
Closed good lib = (v : List ℕ) → good v ≡ true → MayName good (contract_of lib v)

-- a library of which the contract at a place is another
abbrev pub with_contract : ℕ → Object → Contracts → Contracts
with_contract i made [] = []
with_contract zero made (c ∷ cs) = (c.0, made) ∷ cs
with_contract (suc i) made (c ∷ cs) = c ∷ with_contract i made cs

-- what contracts come to that are added to a library in order
abbrev pub results : Contracts → Contracts → Contracts
results lib [] = []
results lib (c ∷ cs) =
    let made : List ℕ × Object = (c.0, result_of lib c.1 None None) in made ∷ results (lib ++ made ∷ []) cs

-- Two libraries in which each word for which a test holds names the same contract, and that names such words alone.
pub record AreAlike (good : List ℕ → Bool) (was lib : Contracts) : Type 0 where
  pub same : Agree was lib good
  pub closed : Closed good was

-- A library whose contracts were made anew up to a place: those before it are what the new own objects come to, and those from it
-- on are what the old ones came to.
pub record AreRenewedTo (good : List ℕ → Bool) (base old new : Contracts) (i : ℕ) (now : Contracts) : Type 0 where
  pub alike : AreAlike good (with_added base (take i old)) (with_added base (take i new))
  pub stands : now ≡ with_added base (take i new) ++ results (with_added base (take i old)) (drop i old)

-- A library that was made of own objects, some of which are others now: those that are written. Those before the first place were there
-- before.
pub record MayRenew (base lib new : Contracts) (first : ℕ) (written : List Bool) : Type 0 where
  pub old : Contracts
  pub made : lib ≡ with_added base old
  pub len : first ≡ length base
  pub words : uris old ≡ uris new
  pub taken : AreTaken base new
  pub others : (j : ℕ) → is_marked j written ≡ false → slice_get old j ≡ slice_get new j
