use Rattle.std.proofs.Common.{◌≡◌, ◌-◌, ◌^◌, List, ap, ◌∙◌, min, not, rules}
use Rattle.std.specs.List.{filter}
use Rattle.ob_watch.specs.declared.item.Item.{Item}
use Rattle.ob_watch.specs.Held.{items_of}
use Rattle.ob_watch.specs.Items.{among, bytes_of}
use Rattle.ob_watch.proofs.ItemLemmas.{items_retained, own_retained}
use Rattle.ob_watch.proofs.MarkLemmas.{passing_marked, passing_objects}
use Rattle.ob_watch.proofs.items.Items.remove.Goals as goal

pub invariant_of-self : goal.invariant_of-self
invariant_of-self c =
    let items = items_of c.self.inside.map.entries in
    let left = items_of c.retain.new.self.entries in
    let is : left ≡ filter (λ i. not (among c.args.texts.now i.text)) items =
    items_retained _ c.args.texts.now _ (λ k v b w g call. search rules) c.self.inside.map.entries c.retain.new.self.entries c.self.invariant.own c.retain.ensures.filtered in
    record {
      own = own_retained _ c.args.texts.now _ (λ k v b w g call. search rules) c.self.inside.map.entries c.retain.new.self.entries c.self.invariant.own c.retain.ensures.filtered;
      marked = passing_marked c.self.inside.mark (λ i. not (among c.args.texts.now i.text)) items left is c.self.invariant.marked;
      objects = passing_objects c.self.inside.may_be_feeds (λ i. not (among c.args.texts.now i.text)) items left is c.self.invariant.objects;
      sizes = c.count_bytes-self-inside.ensures ∙ ap (λ (is : List Item). min (bytes_of is) (2 ^ 64 - 1)) c.as_items.ensures;
    }

pub returns : goal.returns
returns c =
    items_retained _ c.args.texts.now _ (λ k v b w g call. search rules) c.self.inside.map.entries c.retain.new.self.entries c.self.invariant.own c.retain.ensures.filtered
    ∙ ap (λ (items : List Item). filter (λ i. not (among c.args.texts.now i.text)) items) c.self.view_is
