-- Paths that differ go on differing.
use Rattle.std.proofs.Common.{◌≡◌, cond, refl, sym, ap}
use Rattle.ob_object.specs.declared.head.Slot.{Slot}
use Rattle.ob_object.specs.Object.{Objects, none, node}
use Rattle.ob_object.specs.Paths.{is_path, node_path}
use Rattle.ob_site_rules.specs.Build.{Path}
use Rattle.ob_site_rules.specs.Shown.{dressed}
use Rattle.ob_site_rules.specs.State.{State, roll, with_board}
use Rattle.ob_site_rules.specs.declared.plan.Plan.{Plan}
use Rattle.ob_site_rules.specs.Writes.{with_slot, with_slot_in}
use Rattle.ob_plain_state.proofs.Keeping.{keys-rolled}
use Rattle.ob_shown_laws.specs.Alike.{row, DifferInSlots}
use Rattle.ob_shown_laws.specs.Changed.{PathsDiffer}
use Rattle.ob_shown_laws.proofs.Touches.{differ_alike}
use Rattle.ob_shown_laws.proofs.Reaching.{roles_alike}
use Rattle.ob_shown_laws.proofs.Owning.{differ_itself, slot_set}
use Rattle.ob_step_laws.specs.Stays.{paths_of, StepsKeepPaths}

differ_slotted : (p : Path) (slot : Slot) (os : Objects) → DifferInSlots os (with_slot_in p slot os)
differ_slotted p slot none = tt
differ_slotted p slot (node h below rest) = (
  slot_set (is_path p (node_path h)) h slot,
  λ is. sym (ap (λ o. cond (is_path p o) (record h { slot = slot }) h) is),
  differ_slotted p slot below,
  differ_slotted p slot rest,
)

-- states of the same own objects but for slots, with the same histories
still : (plan : Plan) (s t : State) → paths_of s.logs ≡ paths_of t.logs → DifferInSlots (row s.tree) (row t.tree) → PathsDiffer (row (dressed plan s)) → PathsDiffer (row (dressed plan t))
still plan s t e d = differ_alike (row (dressed plan s)) (row (dressed plan t)) (roles_alike plan s t e (row s.tree) (row t.tree) d)

pub steps_keep_paths : StepsKeepPaths
steps_keep_paths plan s d = record {
  slot = λ p slot. still plan s (record s { tree = with_slot p slot s.tree }) refl (differ_slotted p slot (row s.tree)) d;
  logs = λ ls same. still plan s (record s { logs = ls }) (sym same) (differ_itself (row s.tree)) d;
  library = λ lib. still plan s (record s { library = lib }) refl (differ_itself (row s.tree)) d;
  board = λ b. still plan s (with_board s b) refl (differ_itself (row s.tree)) d;
  rolls = still plan s (roll s) (keys-rolled s.logs) (differ_itself (row s.tree)) d;
}
