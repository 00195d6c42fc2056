use Rattle.std.proofs.Common.{◌≡◌, ◌||◌, List, ap, ◌∙◌, not, subst, sym}
use Rattle.std.specs.Prelude.{string_bytes}
use Rattle.ob_watch.specs.declared.item.Item.{Item}
use Rattle.ob_watch.specs.Held.{items_of, StandUnderOwn}
use Rattle.ob_watch.specs.Items.{Text, found_item, put_item}
use Rattle.ob_watch.proofs.ItemLemmas.{items_found, items_insert, own_insert}
use Rattle.ob_watch.proofs.MarkLemmas.{bytes_added, bytes_put_anew, marked_same, put_objects}
use Rattle.ob_watch.proofs.items.Items.put.Goals.{then-self, else-self, then-is_none, else-is_none}
use Rattle.ob_watch.proofs.items.Items.put.Goals as goal

pub invariant_of-self-then-is_none : goal.invariant_of-self-then-is_none
invariant_of-self-then-is_none c =
    let items = items_of c.self.inside.map.entries in
    let own : c.args.item.text ≡ string_bytes c.in_ok-text.text = sym c.text.ensures ∙ sym c.as_str.ensures.value ∙ sym c.in_ok-text.ensures.ok in
    let put : items_of c.insert.new.self.entries ≡ put_item c.args.item items =
    ap items_of c.in_ok-old.ensures.entries ∙ items_insert c.self.inside.map.entries c.in_ok-text.text c.args.item c.self.invariant.own own in
    let found : c.in_ok-old.old ≡ found_item c.args.item.text items =
    c.in_ok-old.ensures.old ∙ items_found (string_bytes c.in_ok-text.text) c.self.inside.map.entries c.self.invariant.own ∙ ap (λ (t : Text). found_item t items) (sym own) in
    record {
      own = subst StandUnderOwn (sym c.in_ok-old.ensures.entries) (own_insert c.self.inside.map.entries c.in_ok-text.text c.args.item c.self.invariant.own own);
      marked = marked_same c.after_put-mark.result (put_item c.args.item items) (items_of c.insert.new.self.entries) put (c.after_put-mark.ensures.put items c.self.invariant.marked);
      objects = put_objects c.self.inside.may_be_feeds c.is_on_feed-on_feed.result c.if-self.self c.args.item items (items_of c.insert.new.self.entries) put c.is_on_feed-on_feed.ensures
          (elim c.if-self.branch [
            | then-self w ↦ w.self-is ∙ w.if-self.true ∙ sym (ap (λ b. b || c.is_on_feed-on_feed.result) w.if-self.true)
            | else-self w ↦ w.self-is ∙ sym (ap (λ b. b || c.is_on_feed-on_feed.result) w.if-self.false)
          ])
          c.self.invariant.objects;
      sizes = bytes_added items (items_of c.insert.new.self.entries) c.args.item c.in_ok-old.old c.self.inside.bytes c.saturating_add-self-inside.result c.as_str-2.result.now
          put found (ap not c.is_none.ensures ∙ ap (λ b. not (not b)) c.if-is_none.true) (c.as_str-2.ensures.value ∙ c.text-2.ensures) c.self.invariant.sizes c.saturating_add-self-inside.ensures;
    }

pub invariant_of-self-else-is_none : goal.invariant_of-self-else-is_none
invariant_of-self-else-is_none c =
    let items = items_of c.self.inside.map.entries in
    let own : c.args.item.text ≡ string_bytes c.in_ok-text.text = sym c.text.ensures ∙ sym c.as_str.ensures.value ∙ sym c.in_ok-text.ensures.ok in
    let put : items_of c.insert.new.self.entries ≡ put_item c.args.item items =
    ap items_of c.in_ok-old.ensures.entries ∙ items_insert c.self.inside.map.entries c.in_ok-text.text c.args.item c.self.invariant.own own in
    let found : c.in_ok-old.old ≡ found_item c.args.item.text items =
    c.in_ok-old.ensures.old ∙ items_found (string_bytes c.in_ok-text.text) c.self.inside.map.entries c.self.invariant.own ∙ ap (λ (t : Text). found_item t items) (sym own) in
    record {
      own = subst StandUnderOwn (sym c.in_ok-old.ensures.entries) (own_insert c.self.inside.map.entries c.in_ok-text.text c.args.item c.self.invariant.own own);
      marked = marked_same c.after_put-mark.result (put_item c.args.item items) (items_of c.insert.new.self.entries) put (c.after_put-mark.ensures.put items c.self.invariant.marked);
      objects = put_objects c.self.inside.may_be_feeds c.is_on_feed-on_feed.result c.if-self.self c.args.item items (items_of c.insert.new.self.entries) put c.is_on_feed-on_feed.ensures
          (elim c.if-self.branch [
            | then-self w ↦ w.self-is ∙ w.if-self.true ∙ sym (ap (λ b. b || c.is_on_feed-on_feed.result) w.if-self.true)
            | else-self w ↦ w.self-is ∙ sym (ap (λ b. b || c.is_on_feed-on_feed.result) w.if-self.false)
          ])
          c.self.invariant.objects;
      sizes = bytes_put_anew items (items_of c.insert.new.self.entries) c.args.item c.in_ok-old.old c.self.inside.bytes
          put found (ap not c.is_none.ensures ∙ ap (λ b. not (not b)) c.if-is_none.false) c.self.invariant.sizes;
    }

pub returns-clause-put : goal.returns-clause-put
returns-clause-put c =
    let own : c.args.item.text ≡ string_bytes c.in_ok-text.text = sym c.text.ensures ∙ sym c.as_str.ensures.value ∙ sym c.in_ok-text.ensures.ok in
    let put =
    ap items_of c.in_ok-old.ensures.entries
    ∙ items_insert c.self.inside.map.entries c.in_ok-text.text c.args.item c.self.invariant.own own
    ∙ ap (λ (items : List Item). put_item c.args.item items) c.self.view_is in
    elim c.if-is_none.branch [ then-is_none w ↦ w.self-is ∙ put | else-is_none w ↦ w.self-is ∙ put ]

pub returns-clause-old : goal.returns-clause-old
returns-clause-old c =
    let own : c.args.item.text ≡ string_bytes c.in_ok-text.text = sym c.text.ensures ∙ sym c.as_str.ensures.value ∙ sym c.in_ok-text.ensures.ok in
    c.in_ok-old.ensures.old
    ∙ items_found (string_bytes c.in_ok-text.text) c.self.inside.map.entries c.self.invariant.own
    ∙ ap (λ (t : Text). found_item t (items_of c.self.inside.map.entries)) (sym own)
    ∙ ap (λ (items : List Item). found_item c.args.item.text items) c.self.view_is
