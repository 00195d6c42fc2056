use Rattle.std.proofs.Common.{arith, ap, sym, subst, refl, ◌∙◌, ◌≡◌, ◌≤ℤ◌, ◌<ℤ◌, to_z, of_z, w64, Some}
use Rattle.std.proofs.lemmas.Int.{ints}
use Rattle.jiff.specs.Words.{plain_zone}
use Rattle.ob_weekly.specs.Search.{FiresOn}
use Rattle.ob_weekly.proofs.Dates.{one_instant, one_due, near_local}
use Rattle.ob_weekly.proofs.Days.{later_than, not_after}
use Rattle.ob_weekly.proofs.due.due_on.Goals.{else-span-at-via-then-span-at+else-at-span, else-span-at-via-else-span-at}
use Rattle.ob_weekly.proofs.due.due_on.Goals as goal

pub returns-then-latest-span-clause-only : goal.returns-then-latest-span-clause-only
returns-then-latest-span-clause-only c = λ d q.
    (let near = (near_local (plain_zone c.args.zone.now) c.args.entry.now c.args.day d.at q.fires).1 in
    let after = q.within.0 in
    absurd (omega (arith, ints, near, after, c.if-latest-span.true, c.local_ms-local.ensures, c.requires.day, c.requires.time)))

pub returns-then-span-earliest-clause-only : goal.returns-then-span-earliest-clause-only
returns-then-span-earliest-clause-only c = λ d q.
    (let near = (near_local (plain_zone c.args.zone.now) c.args.entry.now c.args.day d.at q.fires).0 in
    let upto = q.within.1 in
    absurd (omega (arith, ints, near, upto, c.if-span-earliest.true, c.local_ms-local.ensures, c.requires.day, c.requires.time)))

pub returns-then-at-span-clause-due : goal.returns-then-at-span-clause-due
returns-then-at-span-clause-due c =
    let the_day : to_z w64 (of_z w64 c.args.day) ≡ c.args.day = omega (arith, ints, c.requires.day) in
    let same : to_z w64 (of_z w64 c.fires_on-at.result) ≡ c.fires_on-at.result = omega (arith, ints) in
    record {
      schedule = refl;
      entry = refl;
      day_is = refl;
      time = refl;
      fires = subst (λ n. FiresOn (plain_zone c.args.zone.now) c.args.entry.now n (to_z w64 (of_z w64 c.fires_on-at.result))) the_day (subst (FiresOn (plain_zone c.args.zone.now) c.args.entry.now (to_z w64 (of_z w64 c.args.day))) (sym same) c.fires_on-at.ensures);
      last = c.requires.day.1;
      within = (omega (arith, ints, c.if-span-at.true), omega (arith, ints, c.if-at-span.true));
    }

pub returns-then-at-span-clause-only : goal.returns-then-at-span-clause-only
returns-then-at-span-clause-only c = λ d q.
    ap Some (one_due (plain_zone c.args.zone.now) c.args.place c.args.entry.now c.args.span.low c.args.span.to c.args.day _ d (returns-then-at-span-clause-due c) q)

pub returns-else-span-at-clause-only : goal.returns-else-span-at-clause-only
returns-else-span-at-clause-only c =
    let zone = plain_zone c.args.zone.now in
    let the_day : to_z w64 (of_z w64 c.args.day) ≡ c.args.day = omega (arith, ints, c.requires.day) in
    let at_is : to_z w64 (of_z w64 c.fires_on-at.result) ≡ c.fires_on-at.result = omega (arith, ints) in
    let low_is : to_z w64 (of_z w64 c.args.span.low) ≡ c.args.span.low = omega (arith, ints) in
    let to_is : to_z w64 (of_z w64 c.args.span.to) ≡ c.args.span.to = omega (arith, ints) in
    let fires : FiresOn zone c.args.entry.now c.args.day c.fires_on-at.result = subst (λ n. FiresOn zone c.args.entry.now n c.fires_on-at.result) the_day c.fires_on-at.ensures in
    λ d q.
    (let same = sym (at_is ∙ one_instant zone c.args.entry.now c.args.day c.fires_on-at.result d.at fires q.fires) in
    absurd (elim c.else-span-at.branch [
      | else-span-at-via-then-span-at+else-at-span w ↦ later_than _ _ w.if-at-span.false (subst (λ x. x ≤ℤ to_z w64 (of_z w64 c.args.span.to)) same (subst (λ y. d.at ≤ℤ y) (sym to_is) q.within.1))
      | else-span-at-via-else-span-at w ↦ not_after _ _ w.if-span-at.false (subst (λ x. to_z w64 (of_z w64 c.args.span.low) <ℤ x) same (subst (λ y. y <ℤ d.at) (sym low_is) q.within.0))
    ]))
