use Rattle.ob_site_reads.proofs.Alone.{unended_events}
use Rattle.ob_site_reads.proofs.places.is_event_name.Goals as goal

pub returns-else-is_ended : goal.returns-else-is_ended
returns-else-is_ended c = λ e plan. unended_events plan c.args.path.now (c.is_ended.ensures c.if-is_ended.false) (c.is_ended-else-is_ended.ensures e)
