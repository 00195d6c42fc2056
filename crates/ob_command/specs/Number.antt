-- Numbers on the command line.
use Rattle.std.specs.Prelude.{ℕ, Bool, ◌&&◌, nat_le, nat_lt, List, length, Option, Some, None, if◌then◌else◌}
use Rattle.std.specs.Char.{is_ascii_digit}
use Rattle.std.specs.List.{list_all}
use Rattle.ob_spelling.specs.Numeral.{number}

-- 1 to 18 decimal digits, leading zeros among them
abbrev pub is_numeral : List ℕ → Bool
is_numeral text = nat_lt 0 (length text) && nat_le (length text) 18 && list_all is_ascii_digit text

-- the number that the digits write, where it is at most that
abbrev pub number_up_to : ℕ → List ℕ → Option ℕ
number_up_to most text = if is_numeral text && nat_le (number text) most then Some (number text) else None

abbrev pub from_least : ℕ → Option ℕ → Option ℕ
from_least least None = None
from_least least (Some n) = if nat_le least n then Some n else None

-- the number that the digits write, where it is in that range
abbrev pub number_between : (least most : ℕ) → List ℕ → Option ℕ
number_between least most text = from_least least (number_up_to most text)
