use Rattle.std.proofs.Common.{arith}
use Rattle.ob_watch.proofs.GivingLemmas.{room_values_end, room_values_next}
use Rattle.ob_watch.proofs.watches.room_left.Goals as goal

pub loop-watch-preserved : goal.loop-watch-preserved
loop-watch-preserved c =
    room_values_next c.args.watches.now c.loop-watch.watch-index c.watch-item.result c.loop-watch.room c.leaves-room.result
    c.loop-watch-test.true c.watch-item.is c.loop-watch.invariant c.leaves-room.ensures

pub returns : goal.returns
returns c es values =
    room_values_end c.args.watches.now c.loop-watch.watch-index c.loop-watch.room (omega (arith, c.loop-watch-test.false)) c.loop-watch.invariant es values
