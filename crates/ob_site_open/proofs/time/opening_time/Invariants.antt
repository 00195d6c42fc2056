use Rattle.std.proofs.Common.{◌≡◌, drop, map}
use Rattle.ob_plain_state.specs.States.{entry_of}
use Rattle.ob_step_laws.specs.Ordered.{opening_time}
use Rattle.ob_site_open.proofs.time.opening_time.Given as goal

abbrev pub invariant-loop-entry : goal.invariant-loop-entry
invariant-loop-entry l =
    opening_time l.time (map entry_of (drop l.entry-index l.logs)) ≡ opening_time l.fn.boot (map entry_of l.logs)
