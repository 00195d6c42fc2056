use Rattle.ob_watch.proofs.LapseLemmas.{stand_next}
use Rattle.ob_watch.proofs.watches.soonest_of.Goals as goal

pub loop-watch-preserved : goal.loop-watch-preserved
loop-watch-preserved c =
    stand_next c.loop-watch.soonest c.stands_until.result c.min-soonest.result c.min-soonest.ensures c.args.watches.now c.loop-watch.watch-index c.watch-item.result c.stands_until.ensures
    c.loop-watch-test.true c.watch-item.is c.loop-watch.invariant
