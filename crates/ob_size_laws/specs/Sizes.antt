-- How many bytes constructs take.
use Rattle.std.specs.Prelude.{ℕ, ◌+◌, List, [], ◌∷◌, length}
use Rattle.ob_scan.specs.Constructs.{Construct, opening, attribute, tag_end, empty_end, closing, skipped, ending, mark}

-- at least so many bytes does the text of a construct have: a blank stands before each attribute
abbrev pub size : Construct → ℕ
size (opening name) = length name + 1
size (attribute name raw) = (length name + length raw) + 4
size tag_end = 1
size empty_end = 2
size (closing name) = length name + 3
size skipped = 0
size ending = 0
size mark = 0

-- and that of constructs
abbrev pub sizes : List Construct → ℕ
sizes [] = 0
sizes (c ∷ cs) = size c + sizes cs
