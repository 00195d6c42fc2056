-- The digits of a number are printable.
use Rattle.std.proofs.Common.{◌≡◌, ◌%◌, ◌^◌, ◌<◌, ℕ, true, arith}
use Rattle.std.specs.Fmt.{decimal}
use Rattle.std.proofs.lemmas.Fmt.{decimal_by_steps}
use Rattle.ob_values.specs.XmlText.{is_printable}
use Rattle.ob_alarms.proofs.Paths.{digit, appended}

pub decimal_printable : (n : ℕ) → n < 2 ^ 64 → is_printable (decimal n) ≡ true
decimal_printable n lt =
    decimal_by_steps (λ n ds. is_printable ds ≡ true) digit (λ n ds le h. let m : n % 10 < 10 = omega arith in appended ds _ h (digit (n % 10) m)) n lt
