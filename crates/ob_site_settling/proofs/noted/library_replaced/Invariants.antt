use Rattle.std.proofs.Common.{◌≡◌, drop}
use Rattle.ob_site_settling.specs.Telling.{first_noted, library_noted}
use Rattle.ob_site_settling.proofs.noted.library_replaced.Given as goal

abbrev pub invariant-loop-change : goal.invariant-loop-change
invariant-loop-change l = first_noted library_noted (drop l.change-index l.changes) ≡ first_noted library_noted l.changes
