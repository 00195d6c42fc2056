-- Text on a line that may go to a terminal. Source: ECMA-48, section 5 (controls); Unicode Standard Annex 9, section 2 (marks
-- that turn the direction of text).
use Rattle.std.specs.Prelude.{ℕ, zero, suc, ◌+◌, ◌-◌, ◌==◌, Bool, ◌&&◌, ◌||◌, nat_le, nat_lt, if◌then◌else◌, codes, decimal, List, [], ◌∷◌, ◌++◌, Option, Some, None, slice_index_or}
use Rattle.std.specs.Option.{option_map_or}

abbrev pub is_from_to : ℕ → ℕ → ℕ → Bool
is_from_to least most n = nat_le least n && nat_le n most

-- The character that begins with this byte, and these two behind it, where a terminal obeys it rather than shows it: its number, and
-- how many bytes it has in UTF-8. Below U+0020, U+007F; U+0080 to U+009F; U+061C; U+200E, U+200F, U+202A to U+202E; U+2066 to U+2069.
abbrev pub obeyed : ℕ → ℕ → ℕ → Option (ℕ × ℕ)
obeyed a b c =
    if nat_lt a 32 || a == 127 then Some (a, 1)
    else if a == 194 && is_from_to 128 159 b then Some (b, 2)
    else if a == 216 && b == 156 then Some (1_564, 2)
    else if a == 226 && (b == 128 && (is_from_to 142 143 c || is_from_to 170 174 c)) then Some (8_064 + c, 3)
    else if a == 226 && (b == 129 && is_from_to 166 169 c) then Some (8_128 + c, 3)
    else None

-- a character as XML refers to it: `&#155;`
abbrev pub reference : ℕ → List ℕ
reference n = codes "&#" ++ (decimal n ++ codes ";")

-- a text behind so many bytes, each character that a terminal obeys as a reference
abbrev pub screened_behind : ℕ → List ℕ → List ℕ
screened_behind n [] = []
screened_behind (suc n) (b ∷ text) = screened_behind n text
screened_behind zero (b ∷ text) =
    option_map_or (λ o. reference o.0 ++ screened_behind (o.1 - 1) text) (obeyed b (slice_index_or text 0 0) (slice_index_or text 1 0)) (b ∷ screened_behind 0 text)

-- a text, each character that a terminal obeys as a reference
abbrev pub screened : List ℕ → List ℕ
screened text = screened_behind 0 text
