-- The texts that spell a number from 1 on.
use Rattle.std.specs.Prelude.{Bool, not, ◌&&◌, ◌==◌, nat_le, List, ℕ, length, slice_index}
use Rattle.std.specs.Char.{is_ascii_digit}
use Rattle.std.specs.List.{list_all}

-- digits, of which the first isn't 0, and 64 at most
abbrev pub is_number : List ℕ → Bool
is_number t = not (length t == 0) && (not (slice_index t 0 == 48) && (nat_le (length t) 64 && list_all is_ascii_digit t))

abbrev pub is_slash : ℕ → Bool
is_slash c = c == 47
