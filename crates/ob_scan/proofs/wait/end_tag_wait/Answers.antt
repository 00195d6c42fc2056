use Rattle.std.proofs.Common.{ℕ, List, length, eqb, sym, ap, ◌∙◌}
use Rattle.ob_scan.proofs.Waits.{end_name, end_spaces}
use Rattle.ob_scan.proofs.wait.end_tag_wait.Goals as goal

pub returns-in-Err : goal.returns-in-Err
returns-in-Err c = end_name c.args.bytes.now c.run_wait.result c.run_wait.ensures

pub returns-then-is_empty : goal.returns-then-is_empty
returns-then-is_empty c = end_spaces c.args.bytes.now c.in-Ok.field-0-0.now c.in-Ok.behind.now (sym c.in-Ok.ensures) (c.if-is_empty.ensures ∙ ap (λ (xs : List ℕ). eqb (length xs) 0) c.behind_spaces.ensures)
