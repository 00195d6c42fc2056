use Rattle.std.proofs.Common.{nat_eq, ap, refl, sym, ◌∙◌, None, Some}
use Rattle.std.specs.Option.{option_copied_mut}
use Rattle.ob_watch.proofs.LapseLemmas.{added_lapses, stand_same}
use Rattle.ob_watch.proofs.TableLemmas.{adds_nothing, adds_to, found_in, numbered_same, one_written, table}
use Rattle.ob_watch.proofs.watches.Watches.add.Goals as goal

pub returns-in-None : goal.returns-in-None
returns-in-None c =
    adds_nothing c.args.number c.args.item c.args.room c.args.self.now (table c.get_mut.follows.lender-at-none.entries c.self.inside.next) c.args.undo.now c.args.undo.now _
    (found_in c.args.number c.self.inside.map.entries c.self.inside.next c.args.self.now c.self.view_is None (sym c.get_mut.ensures.value ∙ ap option_copied_mut c.in-None.is))
    (record { table = (λ i. table (c.get_mut.follows.holds-at-none i).entries c.self.inside.next) ∙ c.self.view_is; kept = refl; refused = refl })

pub invariant_of-self-2 : goal.invariant_of-self-2
invariant_of-self-2 c = (
  numbered_same c.self.inside.next c.self.inside.map.entries (c.get_mut.follows.lender c.add.new.self).entries (c.get_mut.follows.holds c.add.new.self).1 c.self.invariant.0,
  stand_same c.self.inside.soonest (nat_eq c.args.number) c.self.inside.map.entries (c.get_mut.follows.lender c.add.new.self).entries c.in-Some.watch.now c.add.new.self
      (sym c.get_mut.ensures.value ∙ ap option_copied_mut c.in-Some.is) (added_lapses c.args.room c.in-Some.watch.now c.add.new.self c.args.item c.add.result c.add.ensures.adds) (c.get_mut.follows.holds c.add.new.self).0 c.self.invariant.1,
)

pub returns : goal.returns
returns c =
    adds_to c.args.number c.args.item c.args.room c.args.self.now (table (c.get_mut.follows.lender c.add.new.self).entries c.self.inside.next) c.args.undo.now c.add.new.undo c.add.result c.in-Some.watch.now
    (found_in c.args.number c.self.inside.map.entries c.self.inside.next c.args.self.now c.self.view_is (Some c.in-Some.watch.now) (sym c.get_mut.ensures.value ∙ ap option_copied_mut c.in-Some.is))
    (record {
      left = c.add.new.self;
      table = one_written c.args.number c.self.inside.map.entries c.self.inside.next c.args.self.now c.self.view_is (λ _. c.add.new.self) (c.get_mut.follows.lender c.add.new.self).entries
          c.in-Some.watch.now c.add.new.self c.self.invariant.0 (sym c.get_mut.ensures.value ∙ ap option_copied_mut c.in-Some.is) refl (c.get_mut.follows.holds c.add.new.self).0;
      adds = c.add.ensures.adds;
      back = c.add.ensures.back;
    })
