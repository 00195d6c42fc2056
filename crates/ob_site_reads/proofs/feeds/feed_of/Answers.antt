use Rattle.std.proofs.Common.{sym, ap, ◌∙◌}
use Rattle.std.specs.Str.{bytes_eq}
use Rattle.ob_site_state.proofs.FeedPaths.{first_is_position}
use Rattle.ob_watch.specs.Feeds.{feed_of}
use Rattle.ob_site_reads.proofs.feeds.feed_of.Goals as goal

pub returns-in-FeedOf : goal.returns-in-FeedOf
returns-in-FeedOf c =
    c.history_at.ensures
    ∙ first_is_position (λ h. bytes_eq h.0 c.in-FeedOf.history) c.args.state.now.plan.histories
    ∙ ap (feed_of c.args.state.now.plan) (sym c.in-FeedOf.is)
