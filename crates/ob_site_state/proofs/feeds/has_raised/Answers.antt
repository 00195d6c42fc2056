use Rattle.std.proofs.Common.{◌∙◌}
use Rattle.ob_site_state.proofs.FeedLogs.{events_tell}
use Rattle.ob_site_state.proofs.feeds.has_raised.Goals as goal

pub returns : goal.returns
returns c = c.any_since.ensures ∙ events_tell c.args.filter.now c.args.alarms.now c.args.given c.events_law.ensures
