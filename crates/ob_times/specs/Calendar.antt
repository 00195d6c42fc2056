-- The date of a day that is told by its number.
use Rattle.std.specs.Prelude.{ℕ, zero, suc, ◌+◌, Bool, if◌then◌else◌, ℤ, pos, ◌-ℤ◌, int_le, unsigned_abs}
use Rattle.jiff_core.specs.Calendar.{days_from_civil}

-- the last of the numbers from 1 to n that passes a test, or 0
unfoldable pub last_passing : (ℕ → Bool) → ℕ → ℕ
last_passing passes zero = 0
last_passing passes (suc n) = if passes (suc n) then suc n else last_passing passes n

-- the first of the month is that day or an earlier one
abbrev pub has_begun : ℕ → ℕ → ℤ → Bool
has_begun year month day = int_le (days_from_civil (pos year) month 1) day

-- The year, from 1 to 9999, that the day with this number lies in: the last that has begun by then. Days
-- are counted from 1970-01-01.
unfoldable pub year_of : ℤ → ℕ
year_of day = last_passing (λ year. has_begun year 1 day) 9_999

-- the month of that year: the last that has begun by then
unfoldable pub month_of : ℤ → ℕ
month_of day = last_passing (λ month. has_begun (year_of day) month day) 12

-- the place in that month, from 1
unfoldable pub day_of : ℤ → ℕ
day_of day = unsigned_abs (day -ℤ days_from_civil (pos (year_of day)) (month_of day) 1) + 1
