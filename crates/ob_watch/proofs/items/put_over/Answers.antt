use Rattle.std.proofs.Common.{◌≡◌, ap, ◌∙◌, subst, sym, None}
use Rattle.std.specs.Option.{option_copied_mut}
use Rattle.ob_watch.specs.Held.{items_of, StandUnderOwn}
use Rattle.ob_watch.specs.Items.{Text, found_item, put_over}
use Rattle.ob_watch.proofs.ItemLemmas.{items_found, items_set_at, own_set_at, put_over_nowhere}
use Rattle.ob_watch.proofs.items.put_over.Goals as goal

pub returns-in-None-clause-put : goal.returns-in-None-clause-put
returns-in-None-clause-put c =
    let is : c.as_str.result.now ≡ c.args.item.text = c.as_str.ensures.value ∙ c.text.ensures in
    let none : found_item c.args.item.text (items_of c.args.held.now.entries) ≡ None =
    ap (λ (t : Text). found_item t (items_of c.args.held.now.entries)) (sym is)
    ∙ sym (items_found c.as_str.result.now c.args.held.now.entries c.requires)
    ∙ sym c.get_mut.ensures.value ∙ ap option_copied_mut c.in-None.is in
    (λ i. items_of (c.get_mut.follows.holds-at-none i).entries)
    ∙ sym (put_over_nowhere c.args.item (items_of c.args.held.now.entries) none)

pub returns-clause-own : goal.returns-clause-own
returns-clause-own c =
    let is : c.as_str.result.now ≡ c.args.item.text = c.as_str.ensures.value ∙ c.text.ensures in
    subst StandUnderOwn (sym (c.get_mut.follows.holds c.args.item).0) (own_set_at c.as_str.result.now c.args.held.now.entries c.args.item is c.requires)

pub returns-clause-put : goal.returns-clause-put
returns-clause-put c =
    let is : c.as_str.result.now ≡ c.args.item.text = c.as_str.ensures.value ∙ c.text.ensures in
    ap items_of (c.get_mut.follows.holds c.args.item).0
    ∙ items_set_at c.as_str.result.now c.args.held.now.entries c.args.item is c.requires
