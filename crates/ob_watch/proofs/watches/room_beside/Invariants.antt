use Rattle.std.proofs.Common.{◌≡◌, take}
use Rattle.ob_watch.specs.Tables.{room_left}
use Rattle.ob_watch.proofs.GivingLemmas.{others}
use Rattle.ob_watch.proofs.watches.room_beside.Given as goal

abbrev pub invariant-loop-place : goal.invariant-loop-place
invariant-loop-place l = l.room ≡ room_left (others l.number l.now (take l.place l.held.entries))
