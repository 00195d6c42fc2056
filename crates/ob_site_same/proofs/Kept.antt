-- Records of logs.
use Rattle.std.proofs.Common.{◌≡◌, ℕ, ◌-◌, drop, ap, arith}
use Rattle.ob_history.specs.declared.records.Record.{Record}
use Rattle.ob_history.specs.Logs.{History, kept_since}

-- from the first event on all are kept
pub since_all : (h : History) → kept_since 0 h ≡ h.kept
since_all h = ap (λ (n : ℕ). drop n h.kept) (let none : 0 - h.gone ≡ 0 = omega arith in none)

pub one_record : (a b : Record) → a.kind ≡ b.kind → a.time ≡ b.time → a.slot ≡ b.slot → a ≡ b
one_record a b kind time slot = λ i. record { time = time i; kind = kind i; slot = slot i }
