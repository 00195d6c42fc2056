-- The text of a value between its quotes.
use Rattle.std.specs.Prelude.{ℕ, List, [], ◌∷◌, ◌++◌, ◌==◌, if◌then◌else◌, codes}

-- the reference that stands for a byte, where one has to, or else the byte
abbrev pub escape : ℕ → List ℕ
escape b =
    if b == 38 then codes "&amp;"
    else if b == 60 then codes "&lt;"
    else if b == 34 then codes "&quot;"
    else if b == 9 then codes "&#9;"
    else if b == 10 then codes "&#10;"
    else if b == 13 then codes "&#13;"
    else b ∷ []

-- each byte of a text in turn
abbrev pub escaped : List ℕ → List ℕ
escaped [] = []
escaped (b ∷ text) = escape b ++ escaped text
