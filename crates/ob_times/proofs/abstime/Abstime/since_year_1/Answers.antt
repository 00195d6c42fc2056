use Rattle.std.proofs.Common.{◌≡◌, ap, arith}
use Rattle.std.specs.Prelude.{pos, ◌+ℤ◌, ◌*ℤ◌, unsigned_abs}
use Rattle.std.proofs.lemmas.Int.{ints}
use Rattle.ob_times.specs.Times.{local_seconds}
use Rattle.ob_times.proofs.abstime.Abstime.since_year_1.Goals as goal

pub returns-clause-value : goal.returns-clause-value
returns-clause-value c =
    let i = c.parts-seconds.ensures.range in
    let low = i.from_year_1 in
    let high = i.to_year_9999 in
    let west = i.offset_low in
    let east = i.offset_high in
    let local : local_seconds c.args.self.now ≡ c.parts-seconds.result.0 +ℤ (c.parts-seconds.result.2 *ℤ pos 60) = ap local_seconds c.parts-seconds.ensures.value in
    omega (arith, ints)

pub returns-clause-since : goal.returns-clause-since
returns-clause-since c = ap unsigned_abs (returns-clause-value c)
