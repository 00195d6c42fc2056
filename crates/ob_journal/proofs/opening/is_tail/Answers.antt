use Rattle.std.proofs.Common.{ℕ, ◌∷◌, nat_eq, ◌∙◌, ap}
use Rattle.ob_journal.specs.Journal.{closed_gate, broken_gate}
use Rattle.ob_journal.proofs.Tails.{behind_tail}
use Rattle.ob_journal.proofs.opening.is_tail.Goals as goal

pub returns-then-gate-eq-CLOSED : goal.returns-then-gate-eq-CLOSED
returns-then-gate-eq-CLOSED g c =
    let rest = c.in-Some.behind.now in
    ((λ _. closed_gate rest (c.in-Some.ensures.cases.0 ∙ ap (λ (k : ℕ). k ∷ rest) c.if-gate-eq-CLOSED.true)), λ _. ap (λ (k : ℕ). nat_eq k 0) c.if-gate-eq-CLOSED.true)

pub returns-else-gate-eq-CLOSED : goal.returns-else-gate-eq-CLOSED
returns-else-gate-eq-CLOSED g c =
    let gate = c.in-Some.gate.now in
    let rest = c.in-Some.behind.now in
    let split = c.in-Some.ensures.cases.0 in (
      (λ yes. broken_gate gate rest c.if-gate-eq-OPEN.false split (c.is_last.ensures.0 yes)),
      λ tail. c.is_last.ensures.1 (behind_tail g.S.Shape.is_entry c.args.bytes.now gate rest split c.if-gate-eq-OPEN.false c.if-gate-eq-CLOSED.false tail),
    )
