use Rattle.std.proofs.Common.{◌++◌, ◌<◌, length, ◌∙◌, subst}
use Rattle.ob_history.proofs.Order.{InOrder-left, InOrder-right, filter_no}
use Rattle.ob_history.proofs.Asked.{count_first}
use Rattle.ob_history.proofs.slices.first_from.Goals as goal

pub count_before-count-requires : goal.count_before-count-requires
count_before-count-requires c = InOrder-left _ c.args.back.now c.requires

pub count_before-requires : goal.count_before-requires
count_before-requires c = InOrder-right c.args.front.now _ c.requires

pub returns-then-count-front-clause-count : goal.returns-then-count-front-clause-count
returns-then-count-front-clause-count c =
    rw c.in-Some.is
    (c.count_before-count.ensures.count ∙ count_first c.in-Some.start c.args.front.now c.args.back.now c.requires (subst (λ n. n < length c.args.front.now) c.count_before-count.ensures.count c.if-count-front.true))

pub returns-in-None-clause-count : goal.returns-in-None-clause-count
returns-in-None-clause-count c = rw c.in-None.is (filter_no (c.args.front.now ++ c.args.back.now))
