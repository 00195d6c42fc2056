-- Each firing of a list is of an entry that is there.
use Rattle.std.proofs.Common.{◌≡◌, ℕ, List, [], ◌∷◌, map, Some, ap, subst, ◌∙◌, inl, inr, option_map}
use Rattle.std.specs.Prelude.{option_and_then, slice_get}
use Rattle.std.specs.List.{Contains}
use Rattle.jiff.specs.Types.{TimeZone}
use Rattle.ob_object.specs.declared.head.Slot.{Slot}
use Rattle.ob_weekly.specs.declared.firing.Firing.{Firing}
use Rattle.ob_weekly.specs.declared.schedule.Entry.{Entry}
use Rattle.ob_weekly.specs.declared.schedule.Schedule.{Schedule}
use Rattle.ob_weekly.specs.Behind.{slot_of}
use Rattle.ob_weekly.specs.Firings.{AreFirings, firing_of}
use Rattle.ob_weekly.proofs.OneList.{head_in, later_in, first_or}
use Rattle.ob_weekly.proofs.Told.{not_in_none}

of_mapped : {A B : Type 0} (f : A → B) (xs : List A) (y : B) → Contains (map f xs) y → (x : A) × Contains xs x × (f x ≡ y)
of_mapped f [] y c = absurd (not_in_none y c)
of_mapped f (x ∷ xs) y c = elim (first_or (f x) y (map f xs) c) [
  | inl same ↦ (x, head_in x xs, same)
  | inr later ↦ (let rest = of_mapped f xs y later in (rest.0, later_in x rest.0 xs rest.1, rest.2))
]

pub have_slots : (zone : TimeZone) (schedules : List Schedule) (from to : ℕ) (firings : List Firing) → AreFirings zone schedules from to firings
    → (f : Firing) → Contains firings f → (slot : Slot) × (slot_of schedules f ≡ Some slot)
have_slots zone schedules from to firings fires f c =
    let d = of_mapped firing_of fires.dues f (subst (λ (l : List Firing). Contains l f) fires.firings_are c) in
    let p = ((fires.exact d.0).0 d.1).0 in
    let writes : slot_of schedules (firing_of d.0) ≡ Some p.entry.slot =
    ap (option_and_then (λ (s : Schedule). option_map (λ (e : Entry). e.slot) (slice_get s.entries.items d.0.entry))) p.schedule_is
    ∙ ap (option_map (λ (e : Entry). e.slot)) p.entry_is in
    (p.entry.slot, subst (λ (g : Firing). slot_of schedules g ≡ Some p.entry.slot) d.2 writes)
