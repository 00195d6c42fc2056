-- What the notes of a step tell of what is otherwise than before it.
use Rattle.std.specs.Prelude.{ℕ, Bool, true, false, not, nat_eq, List, Option, Some, option_map, unwrap_or}
use Rattle.std.specs.List.{find}
use Rattle.ob_object.specs.declared.head.Slot.{Slot}
use Rattle.ob_object.specs.Object.{Object}
use Rattle.ob_site_rules.specs.Sameness.{same_slot}
use Rattle.ob_site_state.specs.declared.change.Change.{Change}
use Rattle.ob_site_state.specs.declared.change.Change.TheVariants as change
use Rattle.ob_tree.specs.Laid.{head_at}

-- whether a note has the slot of the object of a number
abbrev pub is_slot_of : ℕ → Change → Bool
is_slot_of n (change.Slot node slot) = nat_eq node.number n
is_slot_of n _ = false

-- the slot that a note has, if there is one that has a slot
abbrev pub slot_or : Slot → Option Change → Slot
slot_or now (Some (change.Slot node slot)) = slot
slot_or now _ = now

-- The slot that an object had before the step: that of its first note, or else the one that it has now.
abbrev pub slot_before : ℕ → List Change → Slot → Slot
slot_before n changes now = slot_or now (find (is_slot_of n) changes)

-- whether the object of a number has another slot than before the step
abbrev pub has_other_slot : ℕ → List Change → Object → Bool
has_other_slot n changes root = unwrap_or (option_map (λ h. not (same_slot (slot_before n changes h.slot) h.slot)) (head_at n root)) false

-- Whether a note tells that something is otherwise than before the step: its object has another slot, or there is a record or an
-- alarm event more. A library is otherwise only where a slot is.
abbrev pub is_otherwise : List Change → Object → Change → Bool
is_otherwise changes root (change.Slot node slot) = has_other_slot node.number changes root
is_otherwise changes root (change.Records place len) = true
is_otherwise changes root (change.Event rule status) = true
is_otherwise changes root (change.Contracts told) = false
