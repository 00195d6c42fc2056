use Rattle.std.proofs.Common.{◌≡◌, replicate}
use Rattle.ob_site_state.specs.Kept.{log_of}
use Rattle.ob_site_open.specs.Logs.{stand_in}
use Rattle.ob_site_open.proofs.logs.push_gone.Given as goal

abbrev pub invariant-loop : goal.invariant-loop
invariant-loop l = log_of l.log ≡ record (log_of l.initial.log) { kept = replicate l.counter (stand_in l.time) }
