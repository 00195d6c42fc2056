use Rattle.std.proofs.Common.{◌≡◌, drop}
use Rattle.ob_site_settling.specs.Telling.{count_before}
use Rattle.ob_site_settling.proofs.noted.count_before.Given as goal

abbrev pub invariant-loop-event : goal.invariant-loop-event
invariant-loop-event l = count_before (drop l.event-index l.events) l.before ≡ count_before l.events l.count
