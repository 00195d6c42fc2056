use Rattle.std.proofs.Common.{◌≡◌}
use Rattle.ob_site_reads.proofs.Eventful.{some_events}
use Rattle.ob_site_reads.proofs.events.alarm_events.Given as goal

abbrev pub invariant-loop-event : goal.invariant-loop-event
invariant-loop-event l = l.events.items ≡ some_events l.bounds l.alarms l.given l.event
