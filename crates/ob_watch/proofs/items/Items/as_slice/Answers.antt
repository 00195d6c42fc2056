use Rattle.std.proofs.Common.{List, subst}
use Rattle.ob_watch.specs.declared.item.Item.{Item}
use Rattle.ob_watch.specs.Items.{Differ}
use Rattle.ob_watch.proofs.ItemLemmas.{items_differ}
use Rattle.ob_watch.proofs.items.Items.as_slice.Goals as goal

pub returns-clause-differ : goal.returns-clause-differ
returns-clause-differ c = subst (λ (items : List Item). Differ items) c.self.view_is (items_differ c.self.inside.map.entries c.self.invariant.own c.as_slice.ensures.unique)
