use Rattle.std.proofs.Common.{[]}
use Rattle.ob_program.proofs.StormLemmas.{storm_ran}
use Rattle.ob_program.proofs.storm.run_storm.Goals as goal

pub returns : goal.returns
returns g c =
    storm_ran _ _ _ _ _ _ _ c.storm-end.result c.exit-exit.result c.exit-exit.ensures c.storm-end.ensures.comes c.storm-end.ensures.rose (c.tell.ensures [] c.new.ensures.items)
