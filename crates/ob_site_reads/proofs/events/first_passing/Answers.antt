use Rattle.ob_site_reads.proofs.Raised.{early_event, no_event}
use Rattle.ob_site_reads.proofs.events.first_passing.Goals as goal

pub returns-then-from-to : goal.returns-then-from-to
returns-then-from-to c =
    λ event told there lt. no_event c.args.bounds.now c.args.alarms.now _ _ c.raised_within-from.ensures c.if-from-to.true event told there

pub returns : goal.returns
returns c = λ event told there lt. early_event c.args.bounds.now c.args.alarms.now event told there (c.first_event.ensures event told there lt)
