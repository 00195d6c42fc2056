use Rattle.std.proofs.Common.{sym, ◌∙◌}
use Rattle.ob_journal.proofs.Tails.{last_empty, last_some}
use Rattle.ob_journal.proofs.opening.is_last.Goals as goal

pub returns-then-is_empty : goal.returns-then-is_empty
returns-then-is_empty g c =
    let empty = sym c.is_empty.ensures ∙ c.if-is_empty.true in
    ((λ _. last_empty g.S.Shape.is_entry g.met.S.Shape.one_first c.args.bytes.now c.in-Some.n c.in-Some.ensures.some.1 empty), λ _. c.if-is_empty.true)

pub returns-else-is_empty : goal.returns-else-is_empty
returns-else-is_empty g c =
    let some = sym c.is_empty.ensures ∙ c.if-is_empty.false in
    last_some g.S.Shape.is_entry g.met.S.Shape.one_first c.args.bytes.now c.in-Some.n c.in-Some.ensures.some.1 c.eq.result c.as_slice.result.now some c.as_slice.ensures c.eq.ensures
