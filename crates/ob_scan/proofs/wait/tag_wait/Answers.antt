use Rattle.std.proofs.Common.{ℕ, List, length, eqb, ap, ◌∙◌}
use Rattle.ob_scan.proofs.Waits.{tag_spaces, tag_attribute}
use Rattle.ob_scan.proofs.wait.tag_wait.Goals as goal

pub returns-then-is_empty : goal.returns-then-is_empty
returns-then-is_empty c = tag_spaces c.args.bytes.now (c.if-is_empty.ensures ∙ ap (λ (xs : List ℕ). eqb (length xs) 0) c.behind_spaces-here.ensures)

pub returns : goal.returns
returns c = tag_attribute c.args.bytes.now c.behind_spaces-here.result.now c.attribute_wait.result c.behind_spaces-here.ensures c.if-is_empty.ensures c.if-first-eq62.false c.if-first-eq47.false c.requires c.attribute_wait.ensures
