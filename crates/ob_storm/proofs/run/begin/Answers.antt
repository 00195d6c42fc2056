use Rattle.std.proofs.Common.{◌∙◌}
use Rattle.ob_storm.proofs.RunLemmas.{one_began}
use Rattle.ob_storm.proofs.run.begin.Goals as goal

pub loop-index-preserved : goal.loop-index-preserved
loop-index-preserved g c =
    one_began g.M.Machine.act c.loop-index.clients c.begin_client.new.clients c.loop-index.index c.args.count c.loop-index-test.true c.in_ok-begin_client.ensures
    ∙ c.loop-index.invariant
