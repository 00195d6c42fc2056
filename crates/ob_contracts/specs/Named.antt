-- The words that contracts name, kept beside them.
use Rattle.std.specs.Prelude.{◌≡◌, ℕ, Bool, true, List, String}
use Rattle.std.specs.BTreeSet.{BTreeSet, contains_text}
use Rattle.ob_contracts.specs.Inherit.{Contracts}
use Rattle.ob_contracts.specs.Adding.{library_names}

-- a set has each word for which a test holds
abbrev pub HasAll : {Y : Type 0} → BTreeSet (String Y) → (List ℕ → Bool) → Type 0
HasAll known names = (word : List ℕ) → names word ≡ true → contains_text known word ≡ true

-- what was known before is known after
abbrev pub KeepsKnown : {Y : Type 0} → BTreeSet (String Y) → BTreeSet (String Y) → Type 0
KeepsKnown before after = HasAll after (contains_text before)

-- a set has each word that a contract of the library names
abbrev pub HasNamed : {Y : Type 0} → BTreeSet (String Y) → Contracts → Type 0
HasNamed known lib = HasAll known (λ word. library_names word lib)
