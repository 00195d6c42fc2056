use Rattle.std.proofs.Common.{◌≡◌, ◌||◌, ◌-◌, ◌^◌, ap, ◌∙◌, min, sym}
use Rattle.ob_watch.specs.Held.{items_of}
use Rattle.ob_watch.specs.Items.{bytes_of, put_over}
use Rattle.ob_watch.proofs.MarkLemmas.{bytes_over, marked_same, over_objects}
use Rattle.ob_watch.proofs.items.Items.put_over.Goals.{then-self, else-self}
use Rattle.ob_watch.proofs.items.Items.put_over.Goals as goal

pub invariant_of-self : goal.invariant_of-self
invariant_of-self c =
    let items = items_of c.self.inside.map.entries in
    let left = items_of c.put_over.new.held.entries in
    record {
      own = c.put_over.ensures.own;
      marked = marked_same c.after_put-self-inside.result (put_over c.args.item items) left c.put_over.ensures.put (c.after_put-self-inside.ensures.over items c.self.invariant.marked);
      objects = over_objects c.self.inside.may_be_feeds c.is_on_feed-on_feed.result c.if-self.self c.args.item items left c.put_over.ensures.put c.is_on_feed-on_feed.ensures
          (elim c.if-self.branch [
            | then-self w ↦ w.self-is ∙ w.if-self.true ∙ sym (ap (λ b. b || c.is_on_feed-on_feed.result) w.if-self.true)
            | else-self w ↦ w.self-is ∙ sym (ap (λ b. b || c.is_on_feed-on_feed.result) w.if-self.false)
          ])
          c.self.invariant.objects;
      sizes = c.self.invariant.sizes ∙ sym (ap (λ n. min n (2 ^ 64 - 1)) (ap bytes_of c.put_over.ensures.put ∙ bytes_over c.args.item items));
    }
