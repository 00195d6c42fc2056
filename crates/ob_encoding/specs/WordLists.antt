-- Lists of words in one text.
use Rattle.std.specs.Prelude.{ℕ, Bool, ◌||◌, ◌==◌, List, [], ◌∷◌, ◌++◌, length, if◌then◌else◌, encode_utf8}
use Rattle.std.specs.Str.{chars}

-- space, tab, line feed or carriage return
abbrev pub is_blank : ℕ → Bool
is_blank c = (c == 32) || (c == 9) || (c == 10) || (c == 13)

-- a word ends, if one has begun
abbrev pub ended : List ℕ → List (List ℕ) → List (List ℕ)
ended word words = if length word == 0 then words else word ∷ words

-- the words of characters, of which the first goes on with these bytes
abbrev pub words_from : List ℕ → List ℕ → List (List ℕ)
words_from word [] = ended word []
words_from word (c ∷ cs) = if is_blank c then ended word (words_from [] cs) else words_from (word ++ encode_utf8 c) cs

-- the runs of characters other than white space
abbrev pub words_of : List ℕ → List (List ℕ)
words_of text = words_from [] (chars text)
