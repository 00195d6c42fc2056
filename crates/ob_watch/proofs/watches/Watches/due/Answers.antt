use Rattle.std.proofs.Common.{ap, refl, subst, sym, ◌∙◌, None, Some}
use Rattle.std.specs.Prelude.{Option}
use Rattle.std.specs.Option.{option_copied}
use Rattle.ob_watch.specs.Reported.{IsDue}
use Rattle.ob_watch.specs.Tables.{Leased}
use Rattle.ob_watch.proofs.TableLemmas.{due_in, found_in}
use Rattle.ob_watch.proofs.watches.Watches.due.Goals as goal

pub returns-in-Some : goal.returns-in-Some
returns-in-Some g c =
    subst (λ (o : Option Leased). IsDue c.args.tree.now (g.F.Feeds.logs c.args.feeds.now) c.args.place o c.next_due.result)
    (sym (found_in c.args.number c.self.inside.map.entries c.self.inside.next c.args.self.now c.self.view_is (Some c.in-Some.watch.now) (sym c.get.ensures.value ∙ ap option_copied c.in-Some.is)))
    (due_in c.args.tree.now (g.F.Feeds.logs c.args.feeds.now) c.args.place c.in-Some.watch.now c.next_due.result c.next_due.ensures.place c.next_due.ensures.item)

pub returns-in-None : goal.returns-in-None
returns-in-None g c =
    subst (λ (o : Option Leased). IsDue c.args.tree.now (g.F.Feeds.logs c.args.feeds.now) c.args.place o None)
    (sym (found_in c.args.number c.self.inside.map.entries c.self.inside.next c.args.self.now c.self.view_is None (sym c.get.ensures.value ∙ ap option_copied c.in-None.is))) refl
