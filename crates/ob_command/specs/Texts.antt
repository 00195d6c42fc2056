-- Words as texts.
use Rattle.std.specs.Prelude.{ℕ, Bool, List, [], ◌∷◌, Option, Some, None, if◌then◌else◌}
use Rattle.std.specs.List.{list_all}
use Rattle.std.specs.Str.{chars}
use Rattle.ob_scan.specs.Constructs.{is_char}

-- XML can carry each character of the word
abbrev pub is_text : List ℕ → Bool
is_text word = list_all is_char (chars word)

-- the word, if XML can carry it
abbrev pub text_if : List ℕ → Option (List ℕ)
text_if word = if is_text word then Some word else None

-- the words, if XML can carry each
abbrev pub texts_if : List (List ℕ) → Option (List (List ℕ))
texts_if words = if list_all is_text words then Some words else None

-- a word that may be given: nothing where XML can't carry it
abbrev pub optional_text : Option (List ℕ) → Option (Option (List ℕ))
optional_text None = Some None
optional_text (Some word) = if is_text word then Some (Some word) else None

-- the first word that XML can't carry, or nothing
abbrev pub first_other : List (List ℕ) → List ℕ
first_other [] = []
first_other (word ∷ words) = if is_text word then first_other words else word
