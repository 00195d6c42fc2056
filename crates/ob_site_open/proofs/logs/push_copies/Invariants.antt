use Rattle.std.proofs.Common.{◌≡◌, ◌++◌, take}
use Rattle.std.specs.List.{AllByRecursion}
use Rattle.ob_site_state.specs.Kept.{log_of}
use Rattle.ob_site_open.specs.Logs.{HasNanos}
use Rattle.ob_site_open.proofs.logs.push_copies.Given as goal

abbrev pub invariant-loop-record : goal.invariant-loop-record
invariant-loop-record l =
    (log_of l.log ≡ record (log_of l.initial.log) { kept = l.initial.log.kept ++ take l.record-index l.records })
    × AllByRecursion HasNanos (take l.record-index l.records)
