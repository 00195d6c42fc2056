use Rattle.std.proofs.Common.{List, ap, ◌∙◌}
use Rattle.std.specs.Prelude.{is_some}
use Rattle.ob_watch.specs.declared.item.Item.{Item}
use Rattle.ob_watch.specs.Held.{items_of}
use Rattle.ob_watch.specs.Items.{Text, has_text}
use Rattle.ob_watch.proofs.ItemLemmas.{items_found, found_has}
use Rattle.ob_watch.proofs.items.Items.has.Goals as goal

pub returns : goal.returns
returns c =
    c.contains_key.ensures
    ∙ ap is_some (items_found c.as_str.result.now c.self.inside.map.entries c.self.invariant.own)
    ∙ found_has c.as_str.result.now (items_of c.self.inside.map.entries)
    ∙ ap (λ (t : Text). has_text (items_of c.self.inside.map.entries) t) c.as_str.ensures.value
    ∙ ap (λ (items : List Item). has_text items c.args.text.now) c.self.view_is
