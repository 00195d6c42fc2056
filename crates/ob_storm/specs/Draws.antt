-- What a seed draws.
use Rattle.std.specs.Prelude.{ℕ, zero, suc, ◌+◌, ◌*◌, ◌/◌, ◌%◌, ◌^◌, List, [], ◌∷◌}

-- The state of the generator behind this one, by a linear congruence modulo 2^64.
abbrev pub next_state : ℕ → ℕ
next_state x = (6_364_136_223_846_793_005 * x + 1_442_695_040_888_963_407) % 2 ^ 64

-- what is drawn at a state: its upper 31 bits
abbrev pub drawn_at : ℕ → ℕ
drawn_at x = x / 2 ^ 33

-- the first so many draws of a seed, in order
abbrev pub draws : ℕ → ℕ → List ℕ
draws seed zero = []
draws seed (suc n) = drawn_at (next_state seed) ∷ draws (next_state seed) n
