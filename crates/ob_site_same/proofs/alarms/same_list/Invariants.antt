use Rattle.std.proofs.Common.{◌≡◌, take}
use Rattle.ob_site_same.proofs.alarms.same_list.Given as goal

abbrev pub invariant-loop-place : goal.invariant-loop-place
invariant-loop-place l = take l.place l.alarms.alarms ≡ take l.place l.others.alarms
