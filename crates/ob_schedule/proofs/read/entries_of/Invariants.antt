use Rattle.std.proofs.Common.{◌≡◌, map, take}
use Rattle.ob_schedule.specs.Weeks.{entry_of}
use Rattle.ob_schedule.proofs.read.entries_of.Given as goal

abbrev pub invariant-loop-entry : goal.invariant-loop-entry
invariant-loop-entry l = l.made.items ≡ map entry_of (take l.entry-index l.entries)
