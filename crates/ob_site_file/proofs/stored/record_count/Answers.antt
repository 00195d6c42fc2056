use Rattle.std.proofs.Common.{sym, ◌∙◌, arith}
use Rattle.ob_site_file.proofs.Recorded.{counted_one, counted_none}
use Rattle.ob_site_file.proofs.stored.record_count.Goals as goal
use Rattle.ob_site_file.proofs.stored.record_count.Goals.{then-is_record, else-is_record}

pub loop-item-preserved : goal.loop-item-preserved
loop-item-preserved c =
    let all = c.args.items.now in
    let i = c.loop-item.item-index in
    let x = c.item-item.result in
    let held = c.loop-item.invariant.counted in
    let few = c.loop-item.invariant.few in
    elim c.if-is_record.branch [
      | then-is_record w ↦ (let more = w.count-is in record {
        counted = counted_one all i x c.loop-item.count c.if-is_record.count c.loop-item-test.true c.item-item.is (sym c.is_record.ensures ∙ w.if-is_record.true) w.count-is held;
        few = omega (arith, few, more);
      })
      | else-is_record w ↦ (let more = w.count-is in record {
        counted = counted_none all i x c.loop-item.count c.if-is_record.count c.loop-item-test.true c.item-item.is (sym c.is_record.ensures ∙ w.if-is_record.false) w.count-is held;
        few = omega (arith, few, more);
      })
    ]
