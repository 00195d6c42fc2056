use Rattle.ob_replies.proofs.Numbered.{raised_there}
use Rattle.ob_replies.proofs.alarms.raised_at.Goals as goal

pub unreachable-requires : goal.unreachable-requires
unreachable-requires c = raised_there c.args.alarms.now.alarms c.args.place c.raised.result c.requires c.raised.ensures c.in-None.is
