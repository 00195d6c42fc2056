use Rattle.std.proofs.Common.{◌≡◌, sym, ap, ◌∙◌, Some, List}
use Rattle.std.specs.Prelude.{slice_get}
use Rattle.jiff.specs.Types.{TimeZone}
use Rattle.ob_weekly.specs.declared.due.Due.{Due}
use Rattle.ob_weekly.specs.declared.schedule.Entry.{Entry}
use Rattle.ob_weekly.specs.declared.schedule.Schedule.{Schedule}
use Rattle.ob_weekly.specs.Firings.{IsDue}
use Rattle.ob_weekly.proofs.Order.{one_last}
use Rattle.ob_weekly.proofs.laws.one_in_force.Goals as goal

one_of : {A : Type 0} (a b : A) → Some a ≡ Some b → a ≡ b
one_of a b e = cc

one_entry : (zone : TimeZone) (schedules : List Schedule) (x y : Due) (p : IsDue zone schedules x) (q : IsDue zone schedules y) → x ≡ y → p.entry ≡ q.entry
one_entry zone schedules x y p q e =
    let s : p.schedule ≡ q.schedule = one_of p.schedule q.schedule (sym p.schedule_is ∙ (ap (λ (d : Due). slice_get schedules d.schedule) e ∙ q.schedule_is)) in
    one_of p.entry q.entry (sym p.entry_is ∙ (ap (λ (d : Due). slice_get p.schedule.entries.items d.entry) e ∙ (ap (λ (t : Schedule). slice_get t.entries.items y.entry) s ∙ q.entry_is)))

pub returns : goal.returns
returns c = λ zone schedules schedule moment slot other p q.
    (let same = one_last p.last q.last (q.none_later p.last p.is p.of p.past) (p.none_later q.last q.is q.of q.past) in
    p.slot_is ∙ (ap (λ (e : Entry). e.slot) (one_entry zone schedules p.last q.last p.is q.is same) ∙ sym q.slot_is))
