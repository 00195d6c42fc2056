use Rattle.std.proofs.Common.{List, ap, sym, ◌∙◌, ◌++◌}
use Rattle.std.specs.Prelude.{option_to_list}
use Rattle.ob_watch.specs.declared.item.Item.{Item}
use Rattle.ob_watch.specs.Restoring.{restored}
use Rattle.ob_watch.proofs.UndoLemmas.{restored_push}
use Rattle.ob_watch.proofs.additions.restore.Goals as goal

pub loop-item-preserved : goal.loop-item-preserved
loop-item-preserved c =
    ap (restored c.pop.new.self.items) c.put_over.ensures
    ∙ sym (restored_push c.pop.new.self.items c.in-Some.item c.loop-item.items)
    ∙ ap (λ (xs : List Item). restored xs c.loop-item.items) (sym (c.pop.ensures.items ∙ ap (λ o. c.pop.new.self.items ++ option_to_list o) c.in-Some.is))
    ∙ c.loop-item.invariant
