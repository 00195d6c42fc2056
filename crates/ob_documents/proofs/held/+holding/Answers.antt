use Rattle.std.proofs.Common.{◌≡◌, ℕ, ◌+◌, ◌*◌, ◌<◌, ◌≤◌, subst, arith}
use Rattle.ob_object.specs.Object.{count, in_row, parts}
use Rattle.ob_encoding.proofs.Writing.{row_count}
use Rattle.ob_documents.proofs.Holding.{next_object, child_parts, row_of}
use Rattle.ob_documents.proofs.held.+holding.Goals as goal

pub parts_held-row_held-requires : goal.parts_held-row_held-requires
parts_held-row_held-requires t c =
    let same : count (in_row c.children.result.now) ≡ count c.args.object.now.inner = row_count c.children.result.now c.args.object.now.inner c.children.ensures.value in
    (subst (λ (n : ℕ). 2 * count (in_row c.children.result.now) + 2 < n) c.decreases (omega arith), tt)

pub parts_held-returns-clause-row : goal.parts_held-returns-clause-row
parts_held-returns-clause-row t c = row_of c.children.result.now c.args.object.now.inner c.children.ensures.value c.row_held.ensures

pub row_held-parts_held-requires : goal.row_held-parts_held-requires
row_held-parts_held-requires t c =
    let fewer : parts c.object-item.result ≤ count (in_row c.args.objects.now) = child_parts c.args.objects.now c.loop-object.object-index c.object-item.result c.loop-object-test.true c.object-item.is in
    (subst (λ (n : ℕ). 2 * parts c.object-item.result + 1 < n) c.decreases (omega arith), tt)

pub row_held-loop-object-preserved : goal.row_held-loop-object-preserved
row_held-loop-object-preserved t c = next_object c.args.objects.now c.loop-object.object-index c.object-item.result c.loop-object-test.true c.object-item.is c.parts_held.ensures.head c.parts_held.ensures.row c.loop-object.invariant
