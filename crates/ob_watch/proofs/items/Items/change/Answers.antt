use Rattle.std.proofs.Common.{◌≡◌, ◌-◌, ◌^◌, List, false, ap, ◌∙◌, subst, sym, map, min, rules}
use Rattle.ob_watch.specs.declared.item.Item.{Item}
use Rattle.ob_watch.specs.Held.{items_of, StandUnderOwn}
use Rattle.ob_watch.specs.Items.{bytes_of, changed_by}
use Rattle.ob_watch.proofs.ItemLemmas.{own_changed}
use Rattle.ob_watch.proofs.Lists.{values_changed}
use Rattle.ob_watch.proofs.MarkLemmas.{all_stay, bytes_changed, changed_objects, given_marks}
use Rattle.ob_watch.proofs.items.Items.change.Goals as goal

pub returns-then-is_given_again : goal.returns-then-is_given_again
returns-then-is_given_again g c =
    let none : c.self.inside.may_be_feeds ≡ false = search rules in
    subst (λ (items : List Item). items ≡ map (changed_by (g.C.Change.made c.args.change.now)) items) c.self.view_is
    (sym (all_stay (g.C.Change.made c.args.change.now) c.self.inside.mark (c.is_given_again.ensures c.if-is_given_again.true) (items_of c.self.inside.map.entries)
    (c.self.invariant.objects none) c.self.invariant.marked))

pub invariant_of-self : goal.invariant_of-self
invariant_of-self g c =
    let made = g.C.Change.made c.args.change.now in
    let items = items_of c.self.inside.map.entries in
    let changed = items_of c.change_each.new.held.entries in
    let is : changed ≡ map (changed_by made) items = ap items_of c.change_each.ensures ∙ values_changed (changed_by made) c.self.inside.map.entries in
    record {
      own = subst StandUnderOwn (sym c.change_each.ensures) (own_changed made c.self.inside.map.entries c.self.invariant.own);
      marked = given_marks made c.mark-mark.ensures.kinds c.mark-mark.result c.mark-mark.ensures.mark items changed is;
      objects = changed_objects made c.mark-mark.ensures.kinds c.self.inside.may_be_feeds items changed is c.self.invariant.objects;
      sizes = c.self.invariant.sizes ∙ sym (ap (λ n. min n (2 ^ 64 - 1)) (ap bytes_of is ∙ bytes_changed made items));
    }

pub returns : goal.returns
returns g c =
    ap items_of c.change_each.ensures
    ∙ values_changed (changed_by (g.C.Change.made c.args.change.now)) c.self.inside.map.entries
    ∙ ap (λ (items : List Item). map (changed_by (g.C.Change.made c.args.change.now)) items) c.self.view_is
