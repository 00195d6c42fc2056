use Rattle.std.proofs.Common.{◌∙◌}
use Rattle.ob_watch.proofs.LapseLemmas.{stand_values}
use Rattle.ob_watch.proofs.watches.soonest_held.Goals as goal

pub returns : goal.returns
returns c = stand_values c.soonest_of.result c.args.held.now.entries c.as_slice-watches.result.now (c.as_slice-watches.ensures ∙ c.values.ensures.rest) c.soonest_of.ensures
