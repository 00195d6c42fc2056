use Rattle.std.proofs.Common.{◌≡◌, ◌-◌, ◌^◌, List, ap, ◌∙◌, min, subst, sym, take}
use Rattle.ob_watch.specs.declared.item.Item.{Item}
use Rattle.ob_watch.specs.Held.{items_of, StandUnderOwn}
use Rattle.ob_watch.specs.Items.{bytes_of}
use Rattle.ob_watch.proofs.ItemLemmas.{own_take}
use Rattle.ob_watch.proofs.Lists.{values_take}
use Rattle.ob_watch.proofs.MarkLemmas.{first_marked, first_objects}
use Rattle.ob_watch.proofs.items.Items.truncate.Goals as goal

pub invariant_of-self : goal.invariant_of-self
invariant_of-self c =
    let items = items_of c.self.inside.map.entries in
    let left = items_of c.truncate.new.self.entries in
    let is : left ≡ take c.args.count items = ap items_of c.truncate.ensures.entries ∙ values_take c.args.count c.self.inside.map.entries in
    record {
      own = subst StandUnderOwn (sym c.truncate.ensures.entries) (own_take c.args.count c.self.inside.map.entries c.self.invariant.own);
      marked = first_marked c.self.inside.mark c.args.count items left is c.self.invariant.marked;
      objects = first_objects c.self.inside.may_be_feeds c.args.count items left is c.self.invariant.objects;
      sizes = c.count_bytes-self-inside.ensures ∙ ap (λ (is : List Item). min (bytes_of is) (2 ^ 64 - 1)) c.as_items.ensures;
    }

pub returns : goal.returns
returns c =
    ap items_of c.truncate.ensures.entries
    ∙ values_take c.args.count c.self.inside.map.entries
    ∙ ap (λ (items : List Item). take c.args.count items) c.self.view_is
