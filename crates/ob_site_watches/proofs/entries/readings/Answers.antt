use Rattle.std.proofs.Common.{List, [], ◌∷◌, ◌++◌, sym, ap, ◌∙◌}
use Rattle.ob_object.specs.Object.{Object}
use Rattle.ob_site_state.specs.Stamping.{tree_of}
use Rattle.ob_site_watches.specs.Entries.{reading_entry}
use Rattle.ob_site_watches.proofs.Due.{read_more}
use Rattle.ob_site_watches.proofs.Polled.{readings_more}
use Rattle.ob_site_watches.proofs.entries.readings.Goals as goal

pub loop-item-preserved : goal.loop-item-preserved
loop-item-preserved g c = record {
  entries =
      c.in_ok-push.ensures.items
      ∙ ap (λ (o : Object). c.loop-item.entries.items ++ o ∷ []) c.in_ok-reading.ensures.entry
      ∙ ap (λ (es : List Object). es ++ reading_entry c.args.state.now c.item-item.result ∷ []) c.loop-item.invariant.entries
      ∙ sym (read_more c.args.state.now c.args.items.now c.loop-item.item-index c.item-item.result c.loop-item-test.true c.item-item.is);
  steps = readings_more c.args.state.now.plan c.args.state.now.now (tree_of c.args.state.now) c.args.items.now c.loop-item.item-index c.item-item.result c.args.steps.now c.loop-item.steps c.reading.new.steps c.loop-item-test.true c.item-item.is
      c.loop-item.invariant.steps c.in_ok-reading.ensures.steps;
}
