use Rattle.ob_site_file.proofs.Ruled.{put_more}
use Rattle.ob_site_file.proofs.rules.put_rules.Goals as goal

pub loop-item-preserved : goal.loop-item-preserved
loop-item-preserved c = λ ps sees.
    put_more ps c.args.items.now c.loop-item.item-index c.item-item.result c.args.rules.now.items c.loop-item.rules.items c.put_rule.new.rules.items c.loop-item-test.true c.item-item.is (c.in_ok-put_rule.ensures ps sees)
    (c.loop-item.invariant ps sees)
