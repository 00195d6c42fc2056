-- What a step leaves of a sound state is sound.
use Rattle.std.proofs.Common.{◌≡◌, ℕ, zero, suc, ◌+◌, ◌<◌, ◌^◌, List, [], ◌∷◌, Some, None, sym, subst, refl, arith, length-append}
use Rattle.std.specs.Prelude.{slice_get}
use Rattle.ob_object.specs.declared.head.Slot.{Slot}
use Rattle.ob_object.specs.Object.{Object}
use Rattle.ob_contracts.specs.Inherit.{Contracts}
use Rattle.ob_history.specs.declared.records.Record.{Record}
use Rattle.ob_alarms.specs.Changes.{State as Board}
use Rattle.ob_tree.specs.Paths.{first_twice}
use Rattle.ob_tree.specs.Laid.{changed, paths}
use Rattle.ob_site_rules.specs.Build.{Path}
use Rattle.ob_site_rules.specs.declared.plan.Plan.{Plan}
use Rattle.ob_site_rules.specs.State.{Log, State, with_board, roll}
use Rattle.ob_site_rules.specs.Writes.{events_ever, with_record}
use Rattle.ob_plain_state.specs.States.{AreCounted}
use Rattle.ob_shown_laws.proofs.Bridging.{slot_is_set}
use Rattle.ob_step_laws.proofs.Staying.{steps_stay_consistent}
use Rattle.ob_step_laws.proofs.Paths.{steps_keep_paths}
use Rattle.ob_site_state.specs.Changes.{with_log, IsNode}
use Rattle.ob_site_state.specs.Kept.{keys, IsSoundFor}
use Rattle.ob_site_state.proofs.Rewinding.{set_to}
use Rattle.ob_site_state.proofs.Named.{roles_slotted, roles_over}
use Rattle.ob_site_state.proofs.LogPlaces.{keys-with_log}

pub slot_sound : (plan : Plan) (s : State) (n : ℕ) (slot : Slot) → first_twice [] (paths s.tree) ≡ None → IsNode n s.tree → IsSoundFor plan s
    → IsSoundFor plan (record s { tree = changed (set_to slot) n s.tree })
slot_sound plan s n slot differ node sound =
    subst (λ (o : Object). let t : State = record s { tree = o } in IsSoundFor plan t) (sym (slot_is_set s.tree node.0 n slot differ node.1)) (record {
      consistent = (steps_stay_consistent plan s sound.consistent).slot node.0 slot;
      paths_differ = (steps_keep_paths plan s sound.paths_differ).slot node.0 slot;
      roles = roles_slotted plan s node.0 slot sound.roles;
    })

pub logs_sound : (plan : Plan) (s : State) (ls : List (Path × Log)) → keys ls ≡ keys s.logs → AreCounted ls → IsSoundFor plan s → IsSoundFor plan (record s { logs = ls })
logs_sound plan s ls same counted sound = record {
  consistent = (steps_stay_consistent plan s sound.consistent).logs ls same counted;
  paths_differ = (steps_keep_paths plan s sound.paths_differ).logs ls same;
  roles = roles_over plan s (record s { logs = ls }) refl sound.roles;
}

pub library_sound : (plan : Plan) (s : State) (lib : Contracts) → IsSoundFor plan s → IsSoundFor plan (record s { library = lib })
library_sound plan s lib sound = record {
  consistent = (steps_stay_consistent plan s sound.consistent).library lib;
  paths_differ = (steps_keep_paths plan s sound.paths_differ).library lib;
  roles = roles_over plan s (record s { library = lib }) refl sound.roles;
}

pub board_sound : (plan : Plan) (s : State) (b : Board) → IsSoundFor plan s → IsSoundFor plan (with_board s b)
board_sound plan s b sound = record {
  consistent = (steps_stay_consistent plan s sound.consistent).board b;
  paths_differ = (steps_keep_paths plan s sound.paths_differ).board b;
  roles = roles_over plan s (with_board s b) refl sound.roles;
}

pub rolls_sound : (plan : Plan) (s : State) → IsSoundFor plan s → IsSoundFor plan (roll s)
rolls_sound plan s sound = record {
  consistent = (steps_stay_consistent plan s sound.consistent).rolls;
  paths_differ = (steps_keep_paths plan s sound.paths_differ).rolls;
  roles = roles_over plan s (roll s) refl sound.roles;
}

-- one more event can be counted
more_counted : (r : Record) (l : Log) → events_ever l + 1 < 2 ^ 63 → events_ever (with_record r l) < 2 ^ 63
more_counted r l h = omega (arith, length-append l.kept (r ∷ []))

recorded_counted : (r : Record) (place : ℕ) (ls : List (Path × Log)) → ((l : Path × Log) → slice_get ls place ≡ Some l → events_ever l.1 + 1 < 2 ^ 63) → AreCounted ls
    → AreCounted (with_log (with_record r) place ls)
recorded_counted r place [] more counted = tt
recorded_counted r zero (l ∷ ls) more counted = (more_counted r l.1 (more l refl), counted.1)
recorded_counted r (suc place) (l ∷ ls) more counted = (counted.0, recorded_counted r place ls more counted.1)

pub record_sound : (plan : Plan) (s : State) (r : Record) (place : ℕ) → ((l : Path × Log) → slice_get s.logs place ≡ Some l → events_ever l.1 + 1 < 2 ^ 63) → IsSoundFor plan s
    → IsSoundFor plan (record s { logs = with_log (with_record r) place s.logs })
record_sound plan s r place more sound =
    logs_sound plan s (with_log (with_record r) place s.logs) (keys-with_log (with_record r) place s.logs) (recorded_counted r place s.logs more sound.consistent.counted) sound
