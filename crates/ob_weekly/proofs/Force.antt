-- The value in force, from what is due of one schedule.
use Rattle.std.proofs.Common.{◌≡◌, ℕ, ◌<◌, ◌≤◌, List, length, refl, ap, sym, subst, ◌∙◌, arith, ◌⊎◌, inl, inr, Some, false, pos, ℤ, ◌-ℤ◌, ◌<ℤ◌, ◌≤ℤ◌}
use Rattle.std.specs.Prelude.{slice_get}
use Rattle.std.specs.List.{Contains}
use Rattle.std.specs.Ordering.{is_gt}
use Rattle.std.proofs.lemmas.Int.{ints}
use Rattle.jiff.specs.Types.{TimeZone}
use Rattle.ob_object.specs.declared.head.Slot.{Slot}
use Rattle.ob_weekly.specs.declared.due.Due.{Due}
use Rattle.ob_weekly.specs.declared.schedule.Entry.{Entry}
use Rattle.ob_weekly.specs.declared.schedule.Schedule.{Schedule}
use Rattle.ob_weekly.specs.Firings.{IsDue, IsInForce, due_cmp}
use Rattle.ob_weekly.specs.Search.{IsDueIn, AreAll}
use Rattle.ob_weekly.specs.Zones.{FiresAt}
use Rattle.ob_weekly.proofs.Dates.{place_below}
use Rattle.ob_weekly.proofs.Lists.{some_one, earlier_is}

after_or : (low at : ℤ) → (low <ℤ at) ⊎ (at ≤ℤ low)
after_or low at = grind (arith, ints)

-- what is due of the schedule after the first instant
due_of : (zone : TimeZone) (schedules : List Schedule) (schedule : ℕ) (s : Schedule) (low to : ℤ) (d : Due) → slice_get schedules schedule ≡ Some s
    → IsDue zone schedules d → d.schedule ≡ schedule → low <ℤ d.at → d.at ≤ℤ to → IsDueIn zone schedule s.entries.items low to d
due_of zone schedules schedule s low to d here p of after upto =
    let same : p.schedule ≡ s = some_one p.schedule s (sym p.schedule_is ∙ (ap (slice_get schedules) of ∙ here)) in
    record {
      it = p.entry;
      it_is = ap (λ (x : Schedule). slice_get x.entries.items d.entry) (sym same) ∙ p.entry_is;
      due = record { schedule = of; entry = refl; day = p.day; time = p.time; fires = p.fires; within = (after, upto) };
    }

-- where a firing is known in a span, something is due there
pub some_due : (zone : TimeZone) (schedule : ℕ) (entries : List Entry) (low to known : ℤ) (e : Entry) (dues : List Due)
    → AreAll (IsDueIn zone schedule entries low to) dues → slice_get entries 0 ≡ Some e → FiresAt zone e known → low <ℤ known → known ≤ℤ to → 1 ≤ length dues
some_due zone schedule entries low to known e dues due here fires after upto =
    let c = (due.exact (record { at = known; schedule = schedule; day = e.day; at_ms = e.at_ms; entry = 0 })).1 (record {
      it = e;
      it_is = here;
      due = record { schedule = refl; entry = refl; day = refl; time = refl; fires = fires; within = (after, upto) };
    }) in
    omega (arith, c.1)

-- the entry of what is due is there
pub entry_below : (zone : TimeZone) (schedule : ℕ) (entries : List Entry) (low to : ℤ) (dues : List Due) (last : Due)
    → AreAll (IsDueIn zone schedule entries low to) dues → Contains dues last → last.entry < length entries
entry_below zone schedule entries low to dues last due one =
    let p = (due.exact last).0 one in
    place_below entries last.entry p.it (length entries) (omega arith) p.it_is

-- the last of what is due of the schedule has the slot in force
pub in_force : (zone : TimeZone) (schedules : List Schedule) (schedule moment : ℕ) (s : Schedule) (entries : List Entry) (low to : ℤ) (dues : List Due) (last : Due) (e : Entry) (slot : Slot)
    → slice_get schedules schedule ≡ Some s → entries ≡ s.entries.items → to ≡ pos moment → AreAll (IsDueIn zone schedule entries low to) dues
    → Contains dues last → ((d : Due) → Contains dues d → is_gt (due_cmp d last) ≡ false)
    → slice_get entries last.entry ≡ Some e → slot ≡ e.slot → IsInForce zone schedules schedule moment slot
in_force zone schedules schedule moment s entries low to dues last e slot here entries_are to_is due one greatest entry_is slot_is =
    let p = (due.exact last).0 one in
    let last_after = p.due.within.0 in
    let last_upto = p.due.within.1 in
    record {
      last = last;
      is = record {
        schedule = s;
        entry = p.it;
        schedule_is = ap (slice_get schedules) p.due.schedule ∙ here;
        entry_is = ap (λ (l : List Entry). slice_get l last.entry) (sym entries_are) ∙ p.it_is;
        day = p.due.day;
        time = p.due.time;
        fires = p.due.fires;
      };
      of = p.due.schedule;
      past = omega (arith, ints, last_upto, to_is);
      none_later = λ d q of past. elim (after_or low d.at) [
        | inl after ↦ greatest d ((due.exact d).1 (subst (λ (l : List Entry). IsDueIn zone schedule l low to d) (sym entries_are) (due_of zone schedules schedule s low to d here q of after (omega (arith, ints, past, to_is)))))
        | inr before ↦ earlier_is d last (omega (arith, ints, before, last_after))
      ];
      slot_is = slot_is ∙ ap (λ (x : Entry). x.slot) (some_one e p.it (sym entry_is ∙ p.it_is));
    }
