use Rattle.std.proofs.Common.{◌≡◌, map, take}
use Rattle.ob_site_same.proofs.state.same_logs.Given as goal

abbrev pub invariant-loop-place : goal.invariant-loop-place
invariant-loop-place l = take l.place (map (λ x. x.1) l.state.now.logs) ≡ take l.place (map (λ x. x.1) l.other.now.logs)
