use Rattle.std.proofs.Common.{◌≡◌, List, true, false, ap, ◌∙◌, rules, subst, sym}
use Rattle.std.specs.List.{list_any}
use Rattle.ob_watch.specs.declared.item.Item.{Item}
use Rattle.ob_watch.specs.Held.{items_of}
use Rattle.ob_watch.specs.Items.{is_due}
use Rattle.ob_watch.specs.Marked.{IsReached}
use Rattle.ob_watch.proofs.MarkLemmas.{none_due}
use Rattle.ob_watch.proofs.items.Items.has_due.Goals as goal

pub returns-then-is_reported : goal.returns-then-is_reported
returns-then-is_reported g c =
    let reported : c.is_reported.result ≡ true = search rules in
    let none : c.self.inside.may_be_feeds ≡ false = search rules in
    sym (none_due c.args.tree.now (g.F.Feeds.logs c.args.feeds.now) c.self.inside.mark c.self.inside.may_be_feeds (items_of c.self.inside.map.entries) c.requires
    (subst (λ steps. IsReached steps c.self.inside.mark) c.steps.ensures (c.is_reported.ensures reported)) none c.self.invariant.marked c.self.invariant.objects)
    ∙ ap (λ (items : List Item). list_any (is_due c.args.tree.now (g.F.Feeds.logs c.args.feeds.now)) items) c.self.view_is
