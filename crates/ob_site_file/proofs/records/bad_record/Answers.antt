use Rattle.ob_site_file.proofs.Recorded.{records_bad}
use Rattle.ob_site_file.proofs.records.bad_record.Goals as goal

pub returns-in-Err : goal.returns-in-Err
returns-in-Err c =
    records_bad c.args.items.now.number c.args.items.now.objects.now c.loop-item.item-index c.loop-item.before c.loop-item.number c.item-item.result c.in-Err.rule c.loop-item-test.true c.item-item.is c.in-Err.ensures.err.0 c.in-Err.ensures.err.1
    c.loop-item.invariant
