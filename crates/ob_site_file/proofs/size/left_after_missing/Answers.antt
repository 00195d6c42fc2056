use Rattle.std.proofs.Common.{◌+◌}
use Rattle.ob_site_file.proofs.Counted.{left_first, left_more, left_all, left_over}
use Rattle.ob_site_file.proofs.size.left_after_missing.Goals as goal

pub loop-source-init : goal.loop-source-init
loop-source-init c = λ before names. left_first c.args.most before c.args.from.now c.args.there.now names

pub loop-source-preserved : goal.loop-source-preserved
loop-source-preserved c = λ before names.
    left_more c.args.most before c.args.from.now c.loop-source.source-index c.loop-source.left c.in_ok-left.left c.source-item.result c.loop-source.there c.left_after_source.new.there
    c.loop-source-test.true c.source-item.is c.in_ok-left.ensures.left c.in_ok-left.ensures.there (c.loop-source.invariant before names)

pub returns-then-left-eq0 : goal.returns-then-left-eq0
returns-then-left-eq0 c = λ before names.
    left_over c.args.most before c.args.from.now (c.loop-source.source-index + 1) c.in_ok-left.left c.left_after_source.new.there c.if-left-eq0.true
    (left_more c.args.most before c.args.from.now c.loop-source.source-index c.loop-source.left c.in_ok-left.left c.source-item.result c.loop-source.there c.left_after_source.new.there
    c.loop-source-test.true c.source-item.is c.in_ok-left.ensures.left c.in_ok-left.ensures.there (c.loop-source.invariant before names))

pub returns : goal.returns
returns c = λ before names. left_all c.args.most before c.args.from.now c.loop-source.source-index c.loop-source.left c.loop-source.there c.loop-source-test.false (c.loop-source.invariant before names)
