use Rattle.std.proofs.Common.{sym, ◌∙◌, nat_eq}
use Rattle.ob_watch.proofs.LapseLemmas.{stand_removed}
use Rattle.ob_watch.proofs.TableLemmas.{is_held, numbered_removed, one_removed}
use Rattle.ob_watch.proofs.watches.Watches.delete.Goals as goal

pub invariant_of-self : goal.invariant_of-self
invariant_of-self c = (
  numbered_removed c.self.inside.next c.self.inside.map.entries (nat_eq c.args.number) c.shift_remove.new.self.entries c.shift_remove.ensures.entries c.shift_remove.ensures.unique c.self.invariant.0,
  stand_removed c.self.inside.soonest (nat_eq c.args.number) c.self.inside.map.entries c.shift_remove.new.self.entries c.shift_remove.ensures.entries c.self.invariant.1,
)

pub returns-clause-held : goal.returns-clause-held
returns-clause-held c =
    c.is_some.ensures ∙ is_held c.args.number c.self.inside.map.entries c.self.inside.next c.args.self.now c.self.view_is c.shift_remove.result (sym c.shift_remove.ensures.value)

pub returns-clause-deleted : goal.returns-clause-deleted
returns-clause-deleted c =
    one_removed c.args.number c.self.inside.map.entries c.self.inside.next c.args.self.now c.self.view_is c.shift_remove.new.self.entries c.self.invariant.0 c.shift_remove.ensures.entries
