-- Records from the first event on.
use Rattle.std.proofs.Common.{◌≡◌, ℕ, ◌-◌, drop, ap, arith}
use Rattle.ob_history.specs.Logs.{History, kept_since}

-- from the first event on all are kept
pub from_start : (h : History) → kept_since 0 h ≡ h.kept
from_start h = ap (λ (n : ℕ). drop n h.kept) (none_less h.gone)
  where
    none_less : (n : ℕ) → 0 - n ≡ 0
    none_less n = omega arith
