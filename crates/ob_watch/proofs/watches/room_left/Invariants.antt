use Rattle.std.proofs.Common.{◌≡◌, take}
use Rattle.ob_watch.proofs.GivingLemmas.{room_values}
use Rattle.ob_watch.proofs.watches.room_left.Given as goal

abbrev pub invariant-loop-watch : goal.invariant-loop-watch
invariant-loop-watch l = l.room ≡ room_values (take l.watch-index l.watches)
