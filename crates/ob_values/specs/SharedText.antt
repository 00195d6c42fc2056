-- The bytes of a text that may be shared.
use Rattle.std.specs.Prelude.{ℕ, List, [], Option, None, Some}

-- the bytes of what is shared, and none where nothing is
abbrev pub bytes_of_shared : {A : Type 0} → (A → List ℕ) → Option A → List ℕ
bytes_of_shared bytes None = []
bytes_of_shared bytes (Some shared) = bytes shared
