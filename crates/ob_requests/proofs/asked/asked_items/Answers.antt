use Rattle.std.proofs.Common.{Some, sym, ap, ◌∙◌}
use Rattle.ob_requests.proofs.Asking.{asked_more, asked_stop}
use Rattle.ob_requests.proofs.asked.asked_items.Goals as goal

pub returns-in-None : goal.returns-in-None
returns-in-None c =
    sym (asked_stop c.args.objects.now c.loop-object.object-index c.object-item.result c.loop-object-test.true c.object-item.is (sym c.in_ok-asked.ensures ∙ c.in-None.is))

pub loop-object-preserved : goal.loop-object-preserved
loop-object-preserved c =
    asked_more c.args.objects.now c.loop-object.object-index c.object-item.result c.loop-object.all.items c.in-Some.asked c.loop-object-test.true c.object-item.is c.loop-object.invariant (sym c.in_ok-asked.ensures ∙ c.in-Some.is)
    ∙ ap Some (sym c.in_ok-push-in-Some.ensures.items)
