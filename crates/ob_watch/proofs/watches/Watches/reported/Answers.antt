use Rattle.std.proofs.Common.{nat_eq, ap, sym, ◌∙◌, None, Some, map}
use Rattle.std.specs.Option.{option_copied_mut}
use Rattle.ob_watch.specs.Items.{reported_at}
use Rattle.ob_watch.specs.Reported.{all_reported}
use Rattle.ob_watch.specs.Tables.{is_over, watching}
use Rattle.ob_watch.proofs.LapseLemmas.{stand_same}
use Rattle.ob_watch.proofs.TableLemmas.{is_held, none_written, numbered_same, one_written}
use Rattle.ob_watch.proofs.watches.Watches.reported.Goals as goal

pub returns-in-None-clause-held : goal.returns-in-None-clause-held
returns-in-None-clause-held g c =
    is_held c.args.number c.self.inside.map.entries c.self.inside.next c.args.self.now c.self.view_is None (sym c.get_mut.ensures.value ∙ ap option_copied_mut c.in-None.is)

pub returns-in-None-clause-reported : goal.returns-in-None-clause-reported
returns-in-None-clause-reported g c =
    none_written c.args.number c.self.inside.map.entries c.self.inside.next c.args.self.now c.self.view_is (all_reported c.args.tree.now.steps (g.F.Feeds.logs c.args.feeds.now)) c.get_mut.follows.lender-at-none.entries
    (sym c.get_mut.ensures.value ∙ ap option_copied_mut c.in-None.is) (λ i. (c.get_mut.follows.holds-at-none i).entries)

pub invariant_of-self-2 : goal.invariant_of-self-2
invariant_of-self-2 g c = (
  numbered_same c.self.inside.next c.self.inside.map.entries (c.get_mut.follows.lender c.change.new.self).entries (c.get_mut.follows.holds c.change.new.self).1 c.self.invariant.0,
  stand_same c.self.inside.soonest (nat_eq c.args.number) c.self.inside.map.entries (c.get_mut.follows.lender c.change.new.self).entries c.in-Some.watch.now c.change.new.self
      (sym c.get_mut.ensures.value ∙ ap option_copied_mut c.in-Some.is) (λ now. ap (is_over now) c.change.ensures) (c.get_mut.follows.holds c.change.new.self).0 c.self.invariant.1,
)

pub returns-clause-held : goal.returns-clause-held
returns-clause-held g c =
    is_held c.args.number c.self.inside.map.entries c.self.inside.next c.args.self.now c.self.view_is (Some c.in-Some.watch.now) (sym c.get_mut.ensures.value ∙ ap option_copied_mut c.in-Some.is)

pub returns-clause-reported : goal.returns-clause-reported
returns-clause-reported g c =
    one_written c.args.number c.self.inside.map.entries c.self.inside.next c.args.self.now c.self.view_is (all_reported c.args.tree.now.steps (g.F.Feeds.logs c.args.feeds.now)) (c.get_mut.follows.lender c.change.new.self).entries
    c.in-Some.watch.now c.change.new.self c.self.invariant.0 (sym c.get_mut.ensures.value ∙ ap option_copied_mut c.in-Some.is)
    (c.change.ensures ∙ ap (λ s. watching (map (reported_at s (g.F.Feeds.logs c.args.feeds.now)) c.in-Some.watch.now.items) c.in-Some.watch.now) c.steps-steps.ensures) (c.get_mut.follows.holds c.change.new.self).0
