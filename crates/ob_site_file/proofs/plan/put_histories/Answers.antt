use Rattle.ob_site_file.specs.Opened.{history_entry}
use Rattle.ob_site_file.proofs.Planned.{gives_more, gives_all}
use Rattle.ob_site_file.proofs.plan.put_histories.Goals as goal

pub loop-part-preserved : goal.loop-part-preserved
loop-part-preserved c =
    gives_more history_entry (λ p. p.roles.history) c.args.parts.now c.loop-part.part-index c.part-item.result c.args.histories.now.items c.loop-part.histories.items c.put_history.new.histories.items c.loop-part-test.true c.part-item.is
    c.in_ok-put_history.ensures c.loop-part.invariant

pub returns : goal.returns
returns c = gives_all history_entry (λ p. p.roles.history) c.args.parts.now c.loop-part.part-index c.args.histories.now.items c.loop-part.histories.items c.loop-part-test.false c.loop-part.invariant
