use Rattle.std.proofs.Common.{arith}
use Rattle.ob_site.proofs.Renumbered.{same_in, site_in}
use Rattle.ob_site.proofs.room.renumber.Goals as goal

pub returns-clause-same : goal.returns-clause-same
returns-clause-same c = same_in c.args.state.now c.renumber-2.new.self c.args.watches.now c.renumber.new.self c.tree.result.now c.tree.ensures.value c.renumber.ensures c.renumber-2.ensures

pub returns-clause-kept : goal.returns-clause-kept
returns-clause-kept c = site_in c.args.state.now c.renumber-2.new.self c.args.watches.now c.renumber.new.self c.tree.result.now c.tree.ensures.value c.renumber.ensures c.renumber-2.ensures c.requires
