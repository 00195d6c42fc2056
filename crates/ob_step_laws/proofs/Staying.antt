-- A consistent state stays so.
use Rattle.std.proofs.Common.{◌≡◌, ◌||◌, Option, refl, sym, ap, ◌∙◌}
use Rattle.std.specs.Prelude.{is_some}
use Rattle.ob_object.specs.declared.head.Slot.{Slot}
use Rattle.ob_object.specs.Object.{Object, Objects, none, node}
use Rattle.ob_object.specs.Paths.{is_path, node_path}
use Rattle.ob_contracts.specs.Standard.{standard}
use Rattle.ob_site_rules.specs.Build.{Path}
use Rattle.ob_site_rules.specs.Shown.{node_of}
use Rattle.ob_site_rules.specs.State.{State, roll}
use Rattle.ob_site_rules.specs.declared.plan.Plan.{Plan}
use Rattle.ob_site_rules.specs.Writes.{with_slot, with_slot_in}
use Rattle.ob_plain_state.proofs.Keeping.{NamesAreFree-same, rolled_counted, keys-rolled}
use Rattle.ob_plain_state.proofs.Slots.{taken_whatever}
use Rattle.ob_plain_state.proofs.Kept.{unslotted-with_slot, is_in, in_row_there, slot_path, free_slotted, kinds_slotted}
use Rattle.ob_step_laws.specs.Consistent.{IsConsistent}
use Rattle.ob_step_laws.specs.Stays.{StepsStayConsistent}

there_slotted : (q p : Path) (slot : Slot) (r : Objects) → is_in q (with_slot_in p slot r) ≡ is_in q r
there_slotted q p slot none = refl
there_slotted q p slot (node h inner rest) =
    ap (λ (o : Option Path). is_path q o || (is_in q (with_slot_in p slot inner) || is_in q (with_slot_in p slot rest))) (slot_path (is_path p (node_path h)) h slot)
    ∙ ap (λ b. is_path q (node_path h) || (b || is_in q (with_slot_in p slot rest))) (there_slotted q p slot inner)
    ∙ ap (λ b. is_path q (node_path h) || (is_in q inner || b)) (there_slotted q p slot rest)

point_slotted : (q p : Path) (slot : Slot) (o : Object) → is_some (node_of q (with_slot p slot o)) ≡ is_some (node_of q o)
point_slotted q p slot o =
    in_row_there q (with_slot_in p slot (node o.head o.inner none)) ∙ there_slotted q p slot (node o.head o.inner none) ∙ sym (in_row_there q (node o.head o.inner none))

slotted : (plan : Plan) (s : State) (p : Path) (slot : Slot) → IsConsistent plan s → IsConsistent plan (record s { tree = with_slot p slot s.tree })
slotted plan s p slot c = record {
  names_free =
      NamesAreFree-same plan s (record s { tree = with_slot p slot s.tree }) refl (with_slot_in p slot (node s.tree.head s.tree.inner none))
      (free_slotted plan s p slot (node s.tree.head s.tree.inner none) c.names_free);
  kind_at = c.kind_at;
  kinds = kinds_slotted c.kind_at p slot (node s.tree.head s.tree.inner none) c.kinds;
  limits = c.limits;
  points = λ q h. point_slotted q p slot s.tree ∙ c.points q h;
  taken = taken_whatever standard s.tree (with_slot p slot s.tree) (sym (unslotted-with_slot p slot s.tree)) c.taken;
  counted = c.counted;
}

pub steps_stay_consistent : StepsStayConsistent
steps_stay_consistent plan s c = record {
  slot = λ p slot. slotted plan s p slot c;
  logs = λ ls same counted.
      record {
        names_free = NamesAreFree-same plan s (record s { logs = ls }) (sym same) (node s.tree.head s.tree.inner none) c.names_free;
        kind_at = c.kind_at;
        kinds = c.kinds;
        limits = c.limits;
        points = c.points;
        taken = c.taken;
        counted = counted;
      };
  library = λ lib.
      record {
        names_free = NamesAreFree-same plan s (record s { library = lib }) refl (node s.tree.head s.tree.inner none) c.names_free;
        kind_at = c.kind_at;
        kinds = c.kinds;
        limits = c.limits;
        points = c.points;
        taken = c.taken;
        counted = c.counted;
      };
  board = λ b.
      record {
        names_free = NamesAreFree-same plan s (record s { alarms = b.alarms; events = b.events }) refl (node s.tree.head s.tree.inner none) c.names_free;
        kind_at = c.kind_at;
        kinds = c.kinds;
        limits = c.limits;
        points = c.points;
        taken = c.taken;
        counted = c.counted;
      };
  rolls =
      record {
        names_free = NamesAreFree-same plan s (roll s) (keys-rolled s.logs) (node s.tree.head s.tree.inner none) c.names_free;
        kind_at = c.kind_at;
        kinds = c.kinds;
        limits = c.limits;
        points = c.points;
        taken = c.taken;
        counted = rolled_counted s.logs c.counted;
      };
}
