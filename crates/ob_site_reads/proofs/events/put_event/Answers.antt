use Rattle.ob_site_rules.specs.Entries.{event_object}
use Rattle.ob_site_reads.proofs.Raised.{dropped}
use Rattle.ob_site_reads.proofs.events.put_event.Goals as goal

pub returns-then-not-may_pass : goal.returns-then-not-may_pass
returns-then-not-may_pass c =
    dropped c.args.bounds.now (event_object c.args.alarms.now c.args.event) c.args.events.now.items (c.may_pass.ensures c.if-not-may_pass.true)
