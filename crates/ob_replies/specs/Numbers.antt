-- What the answer to a query tells in numbers.
use Rattle.std.specs.Prelude.{ℕ, zero, suc, ◌<◌, ◌^◌, List, [], Option, Some, None}
use Rattle.ob_object.specs.Object.{Object}
use Rattle.ob_site_rules.specs.Entries.{number_children}
use Rattle.ob_replies.specs.declared.query.Numbers.{Numbers}

-- the numbers are those of an int
abbrev pub IsCounted : Option ℕ → Type 0
IsCounted None = Unit {0}
IsCounted (Some number) = number < 2 ^ 63

abbrev pub AreCounted : Option Numbers → Type 0
AreCounted None = Unit {0}
AreCounted (Some n) = (n.gone < 2 ^ 63) × IsCounted n.first

-- the number of the first of so many records, if there is one
abbrev pub first_number : ℕ → ℕ → Option ℕ
first_number first zero = None
first_number first (suc count) = Some first

-- the children that tell them
abbrev pub numbers_of : Option Numbers → List Object
numbers_of None = []
numbers_of (Some n) = number_children n.gone n.first
