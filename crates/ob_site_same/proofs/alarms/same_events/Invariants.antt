use Rattle.std.proofs.Common.{◌≡◌, take}
use Rattle.ob_site_same.proofs.alarms.same_events.Given as goal

abbrev pub invariant-loop-place : goal.invariant-loop-place
invariant-loop-place l = take l.place l.events ≡ take l.place l.others
