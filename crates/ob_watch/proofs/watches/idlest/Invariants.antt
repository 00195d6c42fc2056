use Rattle.std.proofs.Common.{◌≡◌, take}
use Rattle.ob_watch.proofs.GivingLemmas.{found_idle}
use Rattle.ob_watch.proofs.watches.idlest.Given as goal

abbrev pub invariant-loop-place : goal.invariant-loop-place
invariant-loop-place l = l.found ≡ found_idle l.now (take l.place l.held.entries)
