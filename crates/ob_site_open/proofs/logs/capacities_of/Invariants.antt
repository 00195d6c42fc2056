use Rattle.std.proofs.Common.{◌≡◌, map, take}
use Rattle.ob_site_open.proofs.Counting.{capacity_in}
use Rattle.ob_site_open.proofs.logs.capacities_of.Given as goal

abbrev pub invariant-loop-entry : goal.invariant-loop-entry
invariant-loop-entry l = l.made.items ≡ map capacity_in (take l.entry-index l.opened)
