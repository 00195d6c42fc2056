use Rattle.std.proofs.Common.{◌≤◌, ℕ, List, length, sym, subst}
use Rattle.std.specs.List.{All}
use Rattle.ob_object.specs.Object.{Object}
use Rattle.ob_schedule.specs.Right.{IsRightSchedule}
use Rattle.ob_schedule.proofs.Right.{right_file, all_weekly, as_many}
use Rattle.ob_schedule.proofs.read.read_schedules.Goals as goal

pub zone_of-zone-requires : goal.zone_of-zone-requires
zone_of-zone-requires g c = right_file (g.P.Points.rules c.args.points.now) c.args.doc.now c.in_ok-check_form.ensures.is

pub schedules_of-requires : goal.schedules_of-requires
schedules_of-requires g c =
    let right = right_file (g.P.Points.rules c.args.points.now) c.args.doc.now c.in_ok-check_form.ensures.is in
    subst (All IsRightSchedule) (sym c.listed_in.ensures) right.schedules

pub invariant_of-result : goal.invariant_of-result
invariant_of-result g c =
    let right = right_file (g.P.Points.rules c.args.points.now) c.args.doc.now c.in_ok-check_form.ensures.is in
    let count = as_many c.in_ok-list.list.items c.listed_in.result.now c.in_ok-list.ensures in
    record {
      few = subst (λ (n : ℕ). n ≤ 1_000) (sym count) (subst (λ (l : List Object). length l ≤ 1_000) (sym c.listed_in.ensures) right.few);
      weekly = all_weekly c.in_ok-list.list.items c.listed_in.result.now c.in_ok-list.ensures (subst (All IsRightSchedule) (sym c.listed_in.ensures) right.schedules);
    }
