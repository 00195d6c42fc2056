-- Days of the week.
use Rattle.std.proofs.Common.{◌≡◌, ℕ, ◌+◌, ◌-◌, ◌<◌, ◌%◌, arith, pos, ℤ, ◌+ℤ◌, ◌<ℤ◌, ◌≤ℤ◌, false}
use Rattle.std.specs.Prelude.{int_le, int_lt}
use Rattle.std.proofs.lemmas.Int.{ints}
use Rattle.jiff.proofs.SpanFacts.{signed_arith}
use Rattle.jiff_core.specs.Calendar.{weekday_number}

-- so many days later
pub weekday_later : (z : ℤ) (k w : ℕ) → w < 7 → k ≡ (w + 7 - weekday_number z) % 7 → weekday_number (z +ℤ pos k) ≡ w
unfolding weekday_number
weekday_later z k w small is = omega (arith, signed_arith)

-- a week later
pub next_week : (z : ℤ) → weekday_number (z +ℤ pos 7) ≡ weekday_number z
unfolding weekday_number
next_week z = omega (arith, signed_arith)

-- none of the six days after a day is of its weekday
pub within_week : (z n : ℤ) → z <ℤ n → n <ℤ (z +ℤ pos 7) → weekday_number n ≡ weekday_number z → ⊥
unfolding weekday_number
within_week z n after before same = omega (arith, signed_arith, after, before, same)

-- tests of the order of two numbers
pub later_than : (x y : ℤ) → int_le x y ≡ false → x ≤ℤ y → ⊥
later_than x y fails holds = omega (arith, ints, fails, holds)

pub not_after : (x y : ℤ) → int_lt x y ≡ false → x <ℤ y → ⊥
not_after x y fails holds = omega (arith, ints, fails, holds)
