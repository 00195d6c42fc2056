use Rattle.std.proofs.Common.{◌∷◌, Some, ap, sym, ◌∙◌, rules}
use Rattle.atomic_table.specs.Table.{rest}
use Rattle.ob_machine.specs.History.{after}
use Rattle.ob_turn.proofs.desk.Desk.step.Goals as goal

pub slot_mut-slot-requires : goal.slot_mut-slot-requires
slot_mut-slot-requires g c =
    let machine = Some (after g.M.Machine.act c.args.self.now.opening c.args.seat.now.me.0.seen) in (
      search rules,
      (machine, c.requires.machine ∙ ap (λ l. (0, machine) ∷ l) (sym (ap rest c.requires.machine))),
    )
