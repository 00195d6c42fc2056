-- A run with some of its entries left out.
use Rattle.std.specs.Prelude.{◌≡◌, ◌⊎◌, ℕ, List, [], ◌∷◌}
use Rattle.ob_record.specs.declared.run.Entry.{Entry}
use Rattle.ob_record.specs.Runs.{Recorded, Records}

-- some of these items, in their order: the first is passed over or stays, and so on
abbrev pub IsPartOf : {A : Type 0} → (part whole : List A) → Type 0
IsPartOf part [] = part ≡ []
IsPartOf {A} part (a ∷ whole) = IsPartOf part whole ⊎ ((rest : List A) × (part ≡ a ∷ rest) × IsPartOf rest whole)

-- The bytes are the record of a run of the same moment that has some of the entries, in their order.
pub record IsSifted (run : Recorded) (bytes : List ℕ) : Type 0 where
  pub entries : List Entry
  pub records : Records bytes (record { boot = run.boot; entries = entries })
  pub part : IsPartOf entries run.entries
