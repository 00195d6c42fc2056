use Rattle.std.proofs.Common.{◌-◌, refl, ◌∙◌}
use Rattle.ob_history.specs.declared.records.Filter.{Filter}
use Rattle.ob_site_state.proofs.FeedLogs.{one_tells}
use Rattle.ob_site_state.proofs.feeds.has_passing.Goals as goal

pub returns : goal.returns
returns c =
    let f : Filter = c.args.filter.now in
    let one : Filter = record { limit = 1; start = f.start; end = f.end } in
    c.is_some.ensures
    ∙ one_tells f one (c.args.given - c.args.log.now.gone) c.args.log.now.kept _ _ refl refl refl c.query.ensures.kept c.first_time.ensures
