use Rattle.std.proofs.Common.{List, map, ◌++◌, sym, ap, ◌∙◌}
use Rattle.ob_object.specs.Object.{Object}
use Rattle.ob_site_rules.specs.Replies.{entry}
use Rattle.ob_site_state.specs.Stamping.{tree_of}
use Rattle.ob_site_watches.specs.Entries.{changes_in}
use Rattle.ob_site_watches.proofs.Due.{changes_more}
use Rattle.ob_site_watches.proofs.Polled.{steps_more}
use Rattle.ob_site_watches.proofs.entries.changes.Goals as goal

pub loop-item-preserved : goal.loop-item-preserved
loop-item-preserved g c = record {
  entries =
      c.in_ok-push_change.ensures.entries
      ∙ ap (λ (es : List Object). es ++ map entry (changes_in c.args.state.now c.item-item.result)) c.loop-item.invariant.entries
      ∙ sym (changes_more c.args.state.now c.args.items.now c.loop-item.item-index c.item-item.result c.loop-item-test.true c.item-item.is);
  steps = steps_more c.args.state.now.plan c.args.state.now.now (tree_of c.args.state.now) c.args.items.now c.loop-item.item-index c.item-item.result c.args.steps.now c.loop-item.steps c.push_change.new.steps c.loop-item-test.true c.item-item.is
      c.loop-item.invariant.steps c.in_ok-push_change.ensures.steps;
}
