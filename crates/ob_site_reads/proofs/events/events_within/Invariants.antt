use Rattle.ob_site_reads.proofs.Numbered.{AreUpTo}
use Rattle.ob_site_reads.proofs.events.events_within.Given as goal

abbrev pub invariant-loop-event : goal.invariant-loop-event
invariant-loop-event l = AreUpTo l.bounds l.alarms l.given l.event-items l.event-index l.events.items
