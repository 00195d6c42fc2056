use Rattle.std.proofs.Common.{◌∙◌}
use Rattle.ob_watch.proofs.MarkLemmas.{count_next}
use Rattle.ob_watch.proofs.items.count_bytes.Goals as goal

pub loop-item-preserved : goal.loop-item-preserved
loop-item-preserved c =
    count_next c.args.items.now c.loop-item.item-index c.item-item.result c.as_str.result.now c.loop-item.bytes c.saturating_add-bytes.result
    c.loop-item-test.true c.item-item.is (c.as_str.ensures.value ∙ c.text.ensures) c.loop-item.invariant c.saturating_add-bytes.ensures
