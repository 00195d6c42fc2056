use Rattle.ob_watch.specs.Items.{anew_by, changed_by}
use Rattle.ob_watch.proofs.LapseLemmas.{stand_changed}
use Rattle.ob_watch.proofs.TableLemmas.{numbered_changed}
use Rattle.ob_watch.proofs.watches.Watches.renumber.Goals as goal

pub invariant_of-self : goal.invariant_of-self
invariant_of-self c = (
  numbered_changed (changed_by (anew_by c.args.tree.now)) c.self.inside.next c.self.inside.map.entries c.change_each.new.held.entries c.change_each.ensures c.self.invariant.0,
  stand_changed c.self.inside.soonest (changed_by (anew_by c.args.tree.now)) c.self.inside.map.entries c.change_each.new.held.entries c.change_each.ensures c.self.invariant.1,
)
