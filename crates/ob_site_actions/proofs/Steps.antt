-- The steps of a write, one after another.
use Rattle.std.proofs.Common.{◌≡◌, ℕ, [], Some, None, sym, ap, ◌∙◌, subst}
use Rattle.ob_object.specs.declared.kind.Kind.{Kind}
use Rattle.ob_object.specs.declared.head.Slot.{Slot}
use Rattle.ob_object.specs.Object.{Object}
use Rattle.ob_contracts.specs.Inherit.{Contracts}
use Rattle.ob_contracts.specs.Standard.{with_added, standard}
use Rattle.ob_tree.specs.Laid.{changed, paths}
use Rattle.ob_tree.specs.Paths.{place_of, first_twice}
use Rattle.ob_shown_laws.proofs.Bridging.{slot_is_set}
use Rattle.ob_site_rules.specs.Build.{Path}
use Rattle.ob_site_rules.specs.State.{with_board}
use Rattle.ob_site_rules.specs.Writes.{with_slot, site_contracts, library_after, recorded, board_after, write}
use Rattle.ob_step_laws.specs.Given.{IsMade}
use Rattle.ob_step_laws.proofs.Steps.{made_written}
use Rattle.ob_site_state.specs.Kept.{Kept}
use Rattle.ob_site_state.specs.OwnContracts.{with_slot_at}
use Rattle.ob_site_state.proofs.Rewinding.{set_to}

-- the slot is set
abbrev pub with_value : Kept → ℕ → Slot → Kept
with_value k n slot = record k { now = record k.now { tree = changed (set_to slot) n k.now.tree } }

-- the library is made anew
abbrev pub with_library : Path → Kept → Kept
with_library p k = record k { now = record k.now { library = library_after p k.now.tree k.now.library } }

-- the histories have a record
abbrev pub with_records : Path → Kind → Slot → Kept → Kept
with_records p kind slot k = record k { now = record k.now { logs = recorded k.plan k.time p kind slot k.now.logs } }

-- the rule has acted
abbrev pub with_alarms : Path → Slot → Kept → Kept
with_alarms p slot k = record k { now = with_board k.now (board_after k.plan k.now k.time p slot) }

pub renewed : (p : Path) (k new : Kept) (n : ℕ) (slot : Slot) → IsMade k.now → first_twice [] (paths k.now.tree) ≡ None → place_of p (paths k.now.tree) ≡ Some n
    → new ≡ record k { now = with_slot_at n slot k.now } → new ≡ with_library p (with_value k n slot)
renewed p k new n slot made differ place is =
    let root : Object = changed (set_to slot) n k.now.tree in
    let tree : root ≡ with_slot p slot k.now.tree = slot_is_set k.now.tree p n slot differ place in
    let library : library_after p root k.now.library ≡ with_added standard (site_contracts root) =
    subst (λ (o : Object). library_after p o k.now.library ≡ with_added standard (site_contracts o)) (sym tree) (made_written p slot k.now made) in
    is ∙ ap (λ (l : Contracts). let x : Kept = record k { now = record k.now { library = l; tree = root } } in x) (sym library)

pub all_recorded : (p : Path) (kind : Kind) (slot : Slot) (k old new : Kept) (n : ℕ) (copy : Slot) → old ≡ with_library p (with_value k n copy) → new ≡ with_records p kind slot old
    → new ≡ with_records p kind slot (with_library p (with_value k n copy))
all_recorded p kind slot k old new n copy is then = then ∙ ap (with_records p kind slot) is

pub turned : (p : Path) (kind : Kind) (slot : Slot) (k old new : Kept) (n : ℕ) (copy : Slot) → copy ≡ slot → first_twice [] (paths k.now.tree) ≡ None → place_of p (paths k.now.tree) ≡ Some n
    → old ≡ with_records p kind slot (with_library p (with_value k n copy)) → new ≡ with_alarms p slot old → new ≡ record k { now = write k.plan k.time p kind slot k.now }
turned p kind slot k old new n copy same differ place is then =
    let tree : changed (set_to copy) n k.now.tree ≡ with_slot p slot k.now.tree =
    ap (λ (v : Slot). changed (set_to v) n k.now.tree) same ∙ slot_is_set k.now.tree p n slot differ place in
    let made : Object → Kept = λ o. record k {
      now = with_board (record k.now { library = library_after p o k.now.library; tree = o; logs = recorded k.plan k.time p kind slot k.now.logs }) (board_after k.plan k.now k.time p slot);
    } in
    then ∙ ap (with_alarms p slot) is ∙ ap made tree
