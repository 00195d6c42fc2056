-- The one text that is printed of a truth value or a real.
use Rattle.std.specs.Prelude.{ℕ, ◌/◌, ◌%◌, ◌^◌, Bool, true, false, List, ◌++◌, ℤ, unsigned_abs, codes, decimal}
use Rattle.std.specs.Int.{is_negative}
use Rattle.ob_spelling.specs.Places.{fraction_text, minus}

-- true or false
abbrev pub truth_text : Bool → List ℕ
truth_text true = codes "true"
truth_text false = codes "false"

-- z units of 10 ^ -18: a minus if it is negative, the whole part, and behind a point the places without
-- the zeros at their end, if there are any
abbrev pub real_text : ℤ → List ℕ
real_text z =
    minus (is_negative z)
    ++ (decimal (unsigned_abs z / 10 ^ 18) ++ fraction_text 18 (unsigned_abs z % 10 ^ 18))
