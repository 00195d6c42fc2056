use Rattle.std.proofs.Common.{nat_eq, ap, sym, ◌∙◌, None, Some}
use Rattle.std.specs.Option.{option_copied_mut}
use Rattle.ob_watch.proofs.LapseLemmas.{stand_same}
use Rattle.ob_watch.proofs.TableLemmas.{found_in, if_none, if_some, is_held, numbered_same, one_written}
use Rattle.ob_watch.specs.Tables.{is_over, watching}
use Rattle.ob_watch.proofs.watches.Watches.take_back.Goals as goal

pub returns-in-None-clause-held : goal.returns-in-None-clause-held
returns-in-None-clause-held c =
    is_held c.args.number c.self.inside.map.entries c.self.inside.next c.args.self.now c.self.view_is None (sym c.get_mut.ensures.value ∙ ap option_copied_mut c.in-None.is)

pub returns-in-None-clause-taken : goal.returns-in-None-clause-taken
returns-in-None-clause-taken c = λ original.
    if_none _ _ (found_in c.args.number c.self.inside.map.entries c.self.inside.next c.args.self.now c.self.view_is None (sym c.get_mut.ensures.value ∙ ap option_copied_mut c.in-None.is))

pub invariant_of-self-2 : goal.invariant_of-self-2
invariant_of-self-2 c = (
  numbered_same c.self.inside.next c.self.inside.map.entries (c.get_mut.follows.lender c.take_back.new.self).entries (c.get_mut.follows.holds c.take_back.new.self).1 c.self.invariant.0,
  stand_same c.self.inside.soonest (nat_eq c.args.number) c.self.inside.map.entries (c.get_mut.follows.lender c.take_back.new.self).entries c.in-Some.watch.now c.take_back.new.self
      (sym c.get_mut.ensures.value ∙ ap option_copied_mut c.in-Some.is) (λ now. ap (is_over now) c.take_back.ensures.kept) (c.get_mut.follows.holds c.take_back.new.self).0 c.self.invariant.1,
)

pub returns-clause-held : goal.returns-clause-held
returns-clause-held c =
    is_held c.args.number c.self.inside.map.entries c.self.inside.next c.args.self.now c.self.view_is (Some c.in-Some.watch.now) (sym c.get_mut.ensures.value ∙ ap option_copied_mut c.in-Some.is)

pub returns-clause-taken : goal.returns-clause-taken
returns-clause-taken c = λ original.
    if_some _ _ c.in-Some.watch.now
    (found_in c.args.number c.self.inside.map.entries c.self.inside.next c.args.self.now c.self.view_is (Some c.in-Some.watch.now) (sym c.get_mut.ensures.value ∙ ap option_copied_mut c.in-Some.is))
    (λ undoes.
    one_written c.args.number c.self.inside.map.entries c.self.inside.next c.args.self.now c.self.view_is (watching original) (c.get_mut.follows.lender c.take_back.new.self).entries
    c.in-Some.watch.now c.take_back.new.self c.self.invariant.0 (sym c.get_mut.ensures.value ∙ ap option_copied_mut c.in-Some.is) (c.take_back.ensures.taken original undoes) (c.get_mut.follows.holds c.take_back.new.self).0)
