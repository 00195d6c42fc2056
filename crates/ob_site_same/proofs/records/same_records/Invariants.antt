use Rattle.std.proofs.Common.{◌≡◌, ◌++◌, take}
use Rattle.ob_site_same.proofs.records.same_records.Given as goal

abbrev pub invariant-loop-place : goal.invariant-loop-place
invariant-loop-place l = take l.place (l.front ++ l.back) ≡ take l.place (l.first ++ l.second)
