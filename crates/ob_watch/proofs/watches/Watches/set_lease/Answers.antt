use Rattle.std.proofs.Common.{nat_eq, ap, sym, ◌∙◌, None, Some}
use Rattle.std.specs.Option.{option_copied_mut}
use Rattle.ob_watch.specs.Tables.{leased_for}
use Rattle.ob_watch.proofs.LapseLemmas.{stand_written}
use Rattle.ob_watch.proofs.TableLemmas.{is_held, none_written, numbered_same, one_written}
use Rattle.ob_watch.proofs.watches.Watches.set_lease.Goals as goal

pub returns-in-None-clause-held : goal.returns-in-None-clause-held
returns-in-None-clause-held c =
    is_held c.args.number c.self.inside.map.entries c.self.inside.next c.args.self.now c.self.view_is None (sym c.get_mut.ensures.value ∙ ap option_copied_mut c.in-None.is)

pub returns-in-None-clause-leased : goal.returns-in-None-clause-leased
returns-in-None-clause-leased c =
    none_written c.args.number c.self.inside.map.entries c.self.inside.next c.args.self.now c.self.view_is (leased_for c.args.lease) c.get_mut.follows.lender-at-none.entries
    (sym c.get_mut.ensures.value ∙ ap option_copied_mut c.in-None.is) (λ i. (c.get_mut.follows.holds-at-none i).entries)

pub invariant_of-self : goal.invariant_of-self
invariant_of-self c = (
  numbered_same c.self.inside.next c.self.inside.map.entries (c.get_mut.follows.lender c.renew.new.self).entries (c.get_mut.follows.holds c.renew.new.self).1 c.self.invariant.0,
  stand_written c.self.inside.soonest c.stands_until.result c.min-self-inside.result c.min-self-inside.ensures (nat_eq c.args.number) c.self.inside.map.entries (c.get_mut.follows.lender c.renew.new.self).entries c.renew.new.self
      c.stands_until.ensures (c.get_mut.follows.holds c.renew.new.self).0 c.self.invariant.1,
)

pub returns-clause-held : goal.returns-clause-held
returns-clause-held c =
    is_held c.args.number c.self.inside.map.entries c.self.inside.next c.args.self.now c.self.view_is (Some c.in-Some.watch.now) (sym c.get_mut.ensures.value ∙ ap option_copied_mut c.in-Some.is)

pub returns-clause-leased : goal.returns-clause-leased
returns-clause-leased c =
    one_written c.args.number c.self.inside.map.entries c.self.inside.next c.args.self.now c.self.view_is (leased_for c.args.lease) (c.get_mut.follows.lender c.renew.new.self).entries
    c.in-Some.watch.now c.renew.new.self c.self.invariant.0 (sym c.get_mut.ensures.value ∙ ap option_copied_mut c.in-Some.is) (c.renew.ensures) (c.get_mut.follows.holds c.renew.new.self).0
