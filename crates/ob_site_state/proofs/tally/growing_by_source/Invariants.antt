use Rattle.std.proofs.Common.{◌≡◌, take}
use Rattle.ob_site_rules.specs.Build.{Path}
use Rattle.ob_site_state.specs.Tallies.{count_at, growing_in}
use Rattle.ob_site_state.proofs.tally.growing_by_source.Given as goal

abbrev pub invariant-loop-place : goal.invariant-loop-place
invariant-loop-place l = (p : Path) → count_at l.counts p ≡ growing_in p (take l.place l.histories) (take l.place l.capacities)
