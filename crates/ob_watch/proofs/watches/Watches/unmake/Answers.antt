use Rattle.std.proofs.Common.{nat_eq, sym, ◌∙◌}
use Rattle.ob_watch.proofs.LapseLemmas.{stand_removed}
use Rattle.ob_watch.proofs.Unmaking.{none_of, numbered_unmade, unmade_in, never_unheld}
use Rattle.ob_watch.proofs.watches.Watches.unmake.Goals as goal

pub invariant_of-self : goal.invariant_of-self
invariant_of-self c = (
  numbered_unmade c.self.inside.next c.saturating_sub-number.result c.self.inside.map.entries c.shift_remove.new.self.entries c.saturating_sub-number.ensures c.shift_remove.ensures.entries
      c.shift_remove.ensures.unique c.self.invariant.0,
  stand_removed c.self.inside.soonest (nat_eq c.saturating_sub-number.result) c.self.inside.map.entries c.shift_remove.new.self.entries c.shift_remove.ensures.entries c.self.invariant.1,
)

pub returns-then-is_some : goal.returns-then-is_some
returns-then-is_some c now before made =
    unmade_in now before c.args.self.now made c.self.inside.map.entries c.self.inside.next c.self.view_is c.saturating_sub-number.result c.shift_remove.new.self.entries
    c.saturating_sub-number.ensures c.shift_remove.ensures.entries c.self.invariant.0

pub returns-else-is_some : goal.returns-else-is_some
returns-else-is_some c now before made =
    absurd (never_unheld now before c.args.self.now made c.self.inside.map.entries c.self.inside.next c.self.view_is c.saturating_sub-number.result
    c.saturating_sub-number.ensures (none_of c.shift_remove.result _ (c.shift_remove.ensures.value) (sym c.is_some.ensures ∙ c.if-is_some.false)))
