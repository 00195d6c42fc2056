use Rattle.std.proofs.Common.{ℕ, List, length, eqb, ap, ◌∙◌, arith}
use Rattle.ob_scan.proofs.Waits.{outside_spaces}
use Rattle.ob_scan.proofs.wait.outside_wait.Goals as goal

pub returns-then-is_empty : goal.returns-then-is_empty
returns-then-is_empty c = outside_spaces c.args.bytes.now (omega (arith, c.in_default.len_at_least)) (c.if-is_empty.ensures ∙ ap (λ (xs : List ℕ). eqb (length xs) 0) c.behind_spaces.ensures)
