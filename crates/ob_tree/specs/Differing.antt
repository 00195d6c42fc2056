-- Objects that are shown otherwise with another library.
use Rattle.std.specs.Prelude.{◌≡◌, ℕ, ◌<◌, List, All, Contains}
use Rattle.std.specs.List.{AllPairs}
use Rattle.ob_object.specs.Object.{Object, parts}
use Rattle.ob_contracts.specs.Inherit.{Contracts}
use Rattle.ob_tree.specs.Shown.{shown_at}

-- what is shown at the object of a number isn't the same with the two libraries
abbrev pub Differs : Contracts → Contracts → Object → ℕ → Type 0
Differs old new o n = shown_at old n o ≡ shown_at new n o → ⊥

-- These are the numbers of all objects that are shown otherwise, each once, in document order.
pub record AreDiffering (old new : Contracts) (o : Object) (ns : List ℕ) : Type 0 where
  pub differ : All (λ n. (n < parts o) × Differs old new o n) ns
  pub all : (n : ℕ) → n < parts o → Differs old new o n → Contains ns n
  pub in_order : AllPairs (λ n m. n < m) ns
