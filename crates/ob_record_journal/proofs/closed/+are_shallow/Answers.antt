use Rattle.std.proofs.Common.{arith}
use Rattle.ob_record_journal.proofs.Closing.{kids_shallow, low_one, next_shallow}
use Rattle.ob_record_journal.proofs.closed.+are_shallow.Goals as goal
use Rattle.ob_record_journal.proofs.closed.+are_shallow.Goals.{then-level-ge-LEVELS-via-then-level-ge-LEVELS, then-level-ge-LEVELS-via-else-level-ge-LEVELS+then-not-are_shallow}

pub loop-object-preserved : goal.loop-object-preserved
loop-object-preserved t c =
    next_shallow c.args.level c.args.objects.now c.loop-object.object-index c.object-item.result (omega (arith, c.loop-object-test.true)) c.object-item.is c.loop-object.invariant c.children.result.now c.children.ensures.value
    (omega (arith, c.if-level-ge-LEVELS.false)) (c.are_shallow.ensures.0 (cc c.if-not-are_shallow.false))

pub returns-then-level-ge-LEVELS : goal.returns-then-level-ge-LEVELS
returns-then-level-ge-LEVELS t c = (
  λ no. absurd (cc no),
  λ whole.
      let within = c.loop-object-test.true in
      elim c.then-level-ge-LEVELS.branch [
        | then-level-ge-LEVELS-via-then-level-ge-LEVELS w ↦
            let low = low_one c.args.level c.args.objects.now c.loop-object.object-index c.object-item.result (omega (arith, within)) c.object-item.is c.loop-object.invariant whole in
            let high = w.if-level-ge-LEVELS.true in
            absurd (omega (arith, low, high))
        | then-level-ge-LEVELS-via-else-level-ge-LEVELS+then-not-are_shallow w ↦
            let inner = kids_shallow c.args.level c.args.objects.now c.loop-object.object-index c.object-item.result (omega (arith, within)) c.object-item.is c.loop-object.invariant w.children.result.now w.children.ensures.value whole in
            let yes = w.are_shallow.ensures.1 inner in
            absurd (cc (w.if-not-are_shallow.true, yes))
      ],
)
