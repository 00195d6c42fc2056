use Rattle.std.proofs.Common.{◌≡◌, take}
use Rattle.ob_watching.specs.Tables.{numbers_of}
use Rattle.ob_watch.specs.Tables.{live}
use Rattle.ob_watch.proofs.watches.live_numbers.Given as goal

abbrev pub invariant-loop-place : goal.invariant-loop-place
invariant-loop-place l = l.numbers.items ≡ numbers_of (live l.now (take l.place l.held.entries))
