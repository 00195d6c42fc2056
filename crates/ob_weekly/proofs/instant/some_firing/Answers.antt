use Rattle.std.proofs.Common.{arith, subst, sym, ◌≡◌, to_z, of_z, w64}
use Rattle.std.proofs.lemmas.Int.{ints}
use Rattle.jiff.specs.Words.{plain_zone}
use Rattle.ob_weekly.specs.Search.{FiresOn}
use Rattle.ob_weekly.proofs.Dates.{near_day}
use Rattle.ob_weekly.proofs.instant.some_firing.Goals as goal

on_day : (c : goal.After-fires_on) → FiresOn (plain_zone c.args.zone.now) c.args.entry.now c.day_from-day.result (to_z w64 (of_z w64 c.fires_on.result))
on_day c =
    let the_day : to_z w64 (of_z w64 c.day_from-day.result) ≡ c.day_from-day.result = omega (arith, ints, c.requires.base, c.day_from-day.ensures.near) in
    let same : to_z w64 (of_z w64 c.fires_on.result) ≡ c.fires_on.result = omega (arith, ints) in
    subst (FiresOn (plain_zone c.args.zone.now) c.args.entry.now c.day_from-day.result) (sym same)
    (subst (λ n. FiresOn (plain_zone c.args.zone.now) c.args.entry.now n c.fires_on.result) the_day c.fires_on.ensures)

pub returns-clause-fires : goal.returns-clause-fires
returns-clause-fires c =
    let on = on_day c in
    record { civil = on.civil; weekday = on.weekday; time = on.time; last = omega (arith, ints, on.date, c.requires.base, c.day_from-day.ensures.near); instant = on.instant }

pub returns-clause-near : goal.returns-clause-near
returns-clause-near c =
    let near = near_day (plain_zone c.args.zone.now) c.args.entry.now c.day_from-day.result (to_z w64 (of_z w64 c.fires_on.result)) c.requires.entry.time (on_day c) in
    (omega (arith, ints, near.0, c.requires.base, c.day_from-day.ensures.near), omega (arith, ints, near.1, c.requires.base, c.day_from-day.ensures.near))
