use Rattle.std.proofs.Common.{ℕ, map, ap, ◌∙◌}
use Rattle.ob_watch.specs.Tables.{lapsed_at}
use Rattle.ob_site.proofs.Ended.{ended_by}
use Rattle.ob_site.proofs.ending.settle.Goals as goal

pub returns : goal.returns
returns c =
    let k = c.args.state.now in
    let t = c.args.watches.now in
    ended_by k c.stamp.new.self c.commit.new.self (map (λ node. node.number) c.args.nodes.now) t c.sweep.new.self c.requires.kept c.requires.ends c.nodes_stay_law.ensures c.requires.given
    (c.sweep.ensures ∙ ap (λ (now : ℕ). lapsed_at now t) c.time.ensures) c.stamp.ensures c.commit.ensures
