use Rattle.std.proofs.Common.{◌≡◌, ◌-◌, ◌^◌, min, map, take}
use Rattle.ob_site_rules.specs.Writes.{stored_logs}
use Rattle.ob_site_state.specs.Kept.{entry_of}
use Rattle.ob_site_state.proofs.tally.counted.Given as goal

abbrev pub invariant-loop-place : goal.invariant-loop-place
invariant-loop-place l = l.total ≡ min (stored_logs (take l.place (map entry_of l.logs))) (2 ^ 64 - 1)
