use Rattle.std.proofs.Common.{refl, sym, ◌∙◌}
use Rattle.ob_super.proofs.TreeLemmas.{over_here, over_past, over_none}
use Rattle.ob_super.proofs.supervisor.shown_over.Goals as goal

pub loop-followed-init : goal.loop-followed-init
loop-followed-init g c = refl

pub returns-in-Some : goal.returns-in-Some
returns-in-Some g c =
    sym (over_here c.args.all.now c.loop-followed.followed-index c.followed-item.result c.args.path.now c.in-Some.shown c.loop-followed-test.true c.followed-item.is
    (sym c.in-Some.is ∙ c.in_ok-shown.ensures) c.loop-followed.invariant)

pub loop-followed-preserved : goal.loop-followed-preserved
loop-followed-preserved g c =
    over_past c.args.all.now c.loop-followed.followed-index c.followed-item.result c.args.path.now c.loop-followed-test.true c.followed-item.is
    (sym c.in_default.is ∙ c.in_ok-shown.ensures) c.loop-followed.invariant

pub returns : goal.returns
returns g c = sym (over_none c.args.all.now c.loop-followed.followed-index c.args.path.now c.loop-followed-test.false c.loop-followed.invariant)
