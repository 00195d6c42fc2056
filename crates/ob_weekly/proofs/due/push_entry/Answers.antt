use Rattle.std.proofs.Common.{arith, ap, sym, subst, ◌∙◌, ◌≡◌, ◌+◌, ℕ, pos, ◌+ℤ◌, ◌≤ℤ◌, to_z, of_z, w64, Some, None}
use Rattle.std.proofs.lemmas.Int.{ints}
use Rattle.jiff.specs.Words.{plain_zone}
use Rattle.jiff_core.specs.Calendar.{weekday_number}
use Rattle.ob_weekly.specs.Search.{UpToDay, IsDueOn}
use Rattle.ob_weekly.proofs.Adding.{busy_day, idle_day}
use Rattle.ob_weekly.proofs.Dates.{all_days, one_due, first_week, next_date}
use Rattle.ob_weekly.proofs.Days.{next_week}
use Rattle.ob_weekly.proofs.due.push_entry.Goals.{in-Some+in_ok-push-in-Some, in-None}
use Rattle.ob_weekly.proofs.due.push_entry.Goals as goal

pub loop-day-init : goal.loop-day-init
loop-day-init c =
    let zone = plain_zone c.args.zone.now in
    let P = IsDueOn zone c.args.place c.args.entry.now c.args.span.low c.args.span.to in
    let first = c.args.span.first in
    let day = c.day_from-day.result in
    let bounds = c.args.span.from_first in
    let near = c.day_from-day.ensures.near in
    let first_is : to_z w64 (of_z w64 first) ≡ first = omega (arith, ints, bounds) in
    let from : first ≤ℤ day = omega (arith, ints, first_is, near) in
    let upto : day ≤ℤ (first +ℤ pos 6) = omega (arith, ints, first_is, near) in
    let day_is : to_z w64 (of_z w64 day) ≡ day = omega (arith, ints, from, upto, bounds) in
    record {
      from = omega (arith, ints, day_is, from);
      fits = omega (arith, ints, day_is, upto, bounds);
      weekday = ap (λ n. weekday_number n + 1) day_is ∙ c.day_from-day.ensures.weekday;
      added = subst (λ n. UpToDay P c.args.dues.now.items first n c.args.dues.now.items) (sym day_is)
          (first_week zone c.args.place c.args.entry.now c.args.span.low c.args.span.to first day c.args.dues.now.items from upto c.day_from-day.ensures.weekday);
    }

pub loop-day-preserved : goal.loop-day-preserved
loop-day-preserved c =
    let zone = plain_zone c.args.zone.now in
    let P = IsDueOn zone c.args.place c.args.entry.now c.args.span.low c.args.span.to in
    let day = to_z w64 c.loop-day.day-bits in
    let first = c.args.span.first in
    let old = c.args.dues.now.items in
    let cur = c.loop-day.dues.items in
    let from = c.loop-day.invariant.from in
    let fits = c.loop-day.invariant.fits in
    let weekday = c.loop-day.invariant.weekday in
    let up = c.loop-day.invariant.added in
    let upto = c.loop-day-test.true in
    let last = c.args.span.to_last in
    let next : to_z w64 (of_z w64 (day +ℤ pos 7)) ≡ day +ℤ pos 7 = omega (arith, ints, fits) in
    let last_is : to_z w64 (of_z w64 c.args.span.last) ≡ c.args.span.last = omega (arith, ints) in
    let within : day ≤ℤ pos 2_932_893 = omega (arith, ints, upto, last_is, last) in
    record {
      from = omega (arith, ints, next, from);
      fits = omega (arith, ints, next, within);
      weekday = ap (λ n. weekday_number n + 1) next ∙ (ap (λ (n : ℕ). n + 1) (next_week day) ∙ weekday);
      added = subst (λ n. UpToDay P old first n c.match-due_on.dues.items) (sym next)
          (next_date zone c.args.place c.args.entry.now c.args.span.low c.args.span.to first day old c.match-due_on.dues.items weekday (elim c.match-due_on.branch [
            | in-Some+in_ok-push-in-Some w ↦ subst (UpToDay P old first (day +ℤ pos 1)) (sym (ap (λ v. v.items) w.dues-is ∙ w.in_ok-push-in-Some.ensures.items))
                (busy_day P old cur first day w.in-Some.due from up w.in-Some.ensures.due (λ d q. one_due zone c.args.place c.args.entry.now c.args.span.low c.args.span.to day w.in-Some.due d w.in-Some.ensures.due q))
            | in-None w ↦ subst (UpToDay P old first (day +ℤ pos 1)) (sym (ap (λ v. v.items) w.dues-is))
                (idle_day P old cur first day up (λ d q. let e : None ≡ Some d = w.in-None.ensures.only d q in cc))
          ]));
    }

pub returns : goal.returns
returns c = all_days (plain_zone c.args.zone.now) c.args.place c.args.entry.now c.args.span.low c.args.span.to c.args.span.first c.args.span.last (to_z w64 c.loop-day.day-bits) c.args.dues.now.items c.loop-day.dues.items c.requires.time c.args.span.first_covers c.args.span.last_covers (omega (arith, ints, c.loop-day-test.false)) c.loop-day.invariant.added
