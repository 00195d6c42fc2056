use Rattle.std.proofs.Common.{◌≡◌, map, take}
use Rattle.ob_site_state.specs.Kept.{entry_of}
use Rattle.ob_plain_state.proofs.Copies.{rolled_entry}
use Rattle.ob_opening_laws.specs.Records.{EachLog}
use Rattle.ob_site_open.specs.Logs.{HaveNanos}
use Rattle.ob_site_open.proofs.logs.logs_of.Given as goal

abbrev pub invariant-loop-entry : goal.invariant-loop-entry
invariant-loop-entry l =
    (map entry_of l.logs.items ≡ map rolled_entry (take l.entry-index l.opened)) × EachLog HaveNanos (map entry_of l.logs.items)
