use Rattle.std.proofs.Common.{◌≡◌, map, sum, take}
use Rattle.ob_storm.specs.Counts.{events_of, counted}
use Rattle.ob_storm.proofs.replies.events_of_all.Given as goal

abbrev pub invariant-loop-entry : goal.invariant-loop-entry
invariant-loop-entry l = l.events ≡ counted (sum (map events_of (take l.entry-index l.entries)))
