use Rattle.std.proofs.Common.{subst}
use Rattle.ob_alarms.specs.Since.{AllKnown}
use Rattle.ob_site_rules.specs.State.{board}
use Rattle.ob_site_state.proofs.FeedPaths.{are_feeds, spare_known}
use Rattle.ob_site_state.proofs.state.State.feeds_law.Goals as goal

pub returns : goal.returns
returns c =
    are_feeds c.args.self.now.plan c.args.self.now.now c.sound_law.ensures.histories
    (spare_known (board c.args.self.now.plan c.args.self.now.now) c.alarms.result.now.spare (subst AllKnown c.alarms.ensures c.events_law.ensures))
