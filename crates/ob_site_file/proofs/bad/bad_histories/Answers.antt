use Rattle.ob_site_file.proofs.Worst.{numbered_at, histories_more}
use Rattle.ob_site_file.proofs.bad.bad_histories.Goals as goal

pub bad_history-requires : goal.bad_history-requires
bad_history-requires c = numbered_at c.args.parts.now c.loop-part.part-index c.part-item.result c.loop-part-test.true c.part-item.is c.requires

pub loop-part-preserved : goal.loop-part-preserved
loop-part-preserved c = λ ps sees.
    histories_more ps c.args.parts.now c.loop-part.part-index c.part-item.result c.loop-part.first c.bad_history.result c.earlier-first.result c.loop-part-test.true c.part-item.is (c.bad_history.ensures ps sees)
    c.earlier-first.ensures (c.loop-part.invariant ps sees)
