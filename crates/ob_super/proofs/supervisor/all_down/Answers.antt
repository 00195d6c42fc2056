use Rattle.std.proofs.Common.{◌∙◌}
use Rattle.std.proofs.lemmas.Iterator.Adapters.{YieldsList-from_vec}
use Rattle.std.proofs.lemmas.Iterator.Consumers.{YieldsList-end}
use Rattle.ob_super.proofs.DownLemmas.{down_more, down_end}
use Rattle.ob_super.proofs.supervisor.all_down.Goals as goal

pub loop-upstream-preserved : goal.loop-upstream-preserved
loop-upstream-preserved g c =
    down_more c.args.wait_ms c.loop-upstream.yielded c.in-Some.upstream c.loop-upstream.all.items c.push_down.new.all.items c.in_ok-push_down.ensures c.loop-upstream.invariant

pub returns : goal.returns
returns g c =
    let t = YieldsList-end (YieldsList-from_vec {s = c.into_iter-upstream-iterator.result} c.args.upstreams.items c.into_iter-upstream-iterator.ensures.into_iter_gives.0 (c.into_iter-upstream-iterator.ensures.into_iter_gives.1 ∙ c.args.upstreams.ok.0)) c.loop-upstream.yielded c.loop-upstream.upstream-iterator c.loop-upstream.yielded_by c.next.result c.next.new.self c.in-None.is c.next.ensures.steps in
    down_end c.args.wait_ms c.loop-upstream.yielded c.args.upstreams.items c.loop-upstream.all.items t.0 c.loop-upstream.invariant
