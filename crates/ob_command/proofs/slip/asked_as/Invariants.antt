use Rattle.std.proofs.Common.{◌≡◌, drop, map}
use Rattle.ob_command.specs.Named.{asked_of}
use Rattle.ob_command.specs.Slips.{asked_as}
use Rattle.ob_command.proofs.slip.asked_as.Given as goal

abbrev pub invariant-loop-asked : goal.invariant-loop-asked
invariant-loop-asked l = asked_as l.name (map asked_of (drop l.asked-index l.options)) ≡ asked_as l.name (map asked_of l.options)
