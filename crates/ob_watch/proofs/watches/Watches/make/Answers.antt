use Rattle.std.proofs.Common.{[], ◌∷◌, ◌++◌, nat_eq, ap, sym, ◌∙◌}
use Rattle.indexmap.proofs.CallerLemmas.{insert_entry-new}
use Rattle.ob_watch.specs.Tables.{Table}
use Rattle.ob_watch.proofs.LapseLemmas.{stand_pushed}
use Rattle.ob_watch.proofs.TableLemmas.{made_in, next_is_new, numbered_pushed}
use Rattle.ob_watch.proofs.watches.Watches.make.Goals as goal

pub invariant_of-self : goal.invariant_of-self
invariant_of-self c = (
  numbered_pushed c.self.inside.next c.self.inside.map.entries c.insert.new.self.entries c.new-watch.result
      (c.in-Ok.ensures.entries ∙ insert_entry-new nat_eq c.self.inside.map c.self.inside.next c.new-watch.result (next_is_new c.self.inside.next c.self.inside.map.entries c.self.invariant.0.below))
      c.insert.ensures.unique c.self.invariant.0,
  stand_pushed c.self.inside.soonest c.stands_until-until.result c.min-self-inside.result c.min-self-inside.ensures c.self.inside.map.entries c.insert.new.self.entries c.self.inside.next c.new-watch.result c.stands_until-until.ensures
      (c.in-Ok.ensures.entries ∙ insert_entry-new nat_eq c.self.inside.map c.self.inside.next c.new-watch.result (next_is_new c.self.inside.next c.self.inside.map.entries c.self.invariant.0.below))
      c.self.invariant.1,
)

pub returns-in-Ok : goal.returns-in-Ok
returns-in-Ok c = (
  sym c.is_full.ensures ∙ c.if-is_full.false,
  ap (λ (t : Table). t.next) c.self.view_is,
  made_in c.args.now c.self.inside.map.entries c.insert.new.self.entries c.self.inside.next c.args.self.now c.self.view_is
      (c.in-Ok.ensures.entries ∙ insert_entry-new nat_eq c.self.inside.map c.self.inside.next c.new-watch.result (next_is_new c.self.inside.next c.self.inside.map.entries c.self.invariant.0.below)
      ∙ ap (λ w. c.self.inside.map.entries ++ (c.self.inside.next, w) ∷ []) c.new-watch.ensures),
)
