-- The moments of a clock that goes by equal steps.
use Rattle.std.specs.Prelude.{◌≡◌, ℕ, zero, suc, ◌+◌, ◌*◌, min, Bool, true, false, List, [], ◌∷◌, ◌++◌, length, Option, Some, None, IfSome, nat_lt, if◌then◌else◌}
use Rattle.std.proofs.Common.{refl, sym, ap, ◌∙◌, length-append, add-one}

-- the last millisecond of the year 9999
abbrev pub last_moment : ℕ
last_moment = 253402300799999

-- the moment that comes after k steps
abbrev pub tick_at : ℕ → ℕ → ℕ → ℕ
tick_at at tick k = min (at + k * tick) last_moment

-- the first k of them
unfoldable pub ticks : ℕ → ℕ → ℕ → List ℕ
ticks at tick zero = []
ticks at tick (suc k) = ticks at tick k ++ tick_at at tick k ∷ []

-- the first k of them, while a u64 can count them
abbrev pub told_ticks : ℕ → ℕ → ℕ → Option (List ℕ)
told_ticks at tick k = if nat_lt k 18446744073709551615 then Some (ticks at tick k) else None

-- a pace: the first moment, and the milliseconds from each moment to the next
pub record Pace : Type 0 where
  pub at : ℕ
  pub tick : ℕ

abbrev pub pace_of : ℕ → ℕ → Pace
pace_of at tick = record { at = at; tick = tick }

-- these are the first moments of the pace
abbrev pub AreFirstOf : Pace → List ℕ → Type 0
AreFirstOf pace moments = moments ≡ ticks pace.at pace.tick (length moments)

-- where both are told, the moments are the first ones of the pace
abbrev pub KeepsPace : Option Pace → Option (List ℕ) → Type 0
KeepsPace pace given = IfSome pace (λ p. IfSome given (λ moments. AreFirstOf p moments))

pub length-ticks : (at tick k : ℕ) → length (ticks at tick k) ≡ k
unfolding ticks
length-ticks at tick zero = refl
length-ticks at tick (suc k) =
    length-append (ticks at tick k) (tick_at at tick k ∷ []) ∙ ap (λ n. n + 1) (length-ticks at tick k) ∙ add-one k

ticks_keep : (at tick k : ℕ) (t : Bool) → KeepsPace (Some (pace_of at tick)) (if t then Some (ticks at tick k) else None)
ticks_keep at tick k true = ap (ticks at tick) (sym (length-ticks at tick k))
ticks_keep at tick k false = tt

pub told_ticks_keep : (at tick k : ℕ) → KeepsPace (Some (pace_of at tick)) (told_ticks at tick k)
told_ticks_keep at tick k = ticks_keep at tick k (nat_lt k 18446744073709551615)
