-- Numbers of 128 bits, in two halves of 64.
use Rattle.std.specs.Prelude.{◌≡◌, ℕ, ◌^◌, ◌<◌, ℤ, pos, ◌+ℤ◌, ◌*ℤ◌, unsigned_abs}
use Rattle.std.specs.Int.{int_shr, int_rem_euclid}
use Rattle.std.proofs.Common.{arith}

-- the number of a high half and a low one
abbrev pub joined : ℤ → ℕ → ℤ
joined high low = high *ℤ pos (2 ^ 64) +ℤ pos low

-- the high half of a number
abbrev pub high_half : ℤ → ℤ
high_half z = int_shr z 64

-- the low half of a number
abbrev pub low_half : ℤ → ℕ
low_half z = unsigned_abs (int_rem_euclid z (pos (2 ^ 64)))

pub high_half-joined : (high : ℤ) (low : ℕ) → low < 2 ^ 64 → high_half (joined high low) ≡ high
high_half-joined high low h = grind arith

pub low_half-joined : (high : ℤ) (low : ℕ) → low < 2 ^ 64 → low_half (joined high low) ≡ low
low_half-joined high low h = grind arith
