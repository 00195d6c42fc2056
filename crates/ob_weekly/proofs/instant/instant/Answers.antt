use Rattle.std.proofs.Common.{arith, ap, ◌∙◌, pos, ◌*ℤ◌}
use Rattle.std.proofs.lemmas.Int.{ints}
use Rattle.jiff.specs.Words.{plain_zone, compatible_offset, ambiguous_at}
use Rattle.ob_weekly.proofs.Dates.{one_civil, picked}
use Rattle.ob_weekly.proofs.instant.instant.Goals as goal

pub overflow_sub-result : goal.overflow_sub-result
overflow_sub-result c = omega (arith, ints, c.requires.day, c.requires.time, c.local_ms-local.ensures, c.offset_ms.ensures.range)

pub returns-clause-some : goal.returns-clause-some
returns-clause-some c = (c.civil_at.result, c.civil_at.ensures.date ∙ omega (arith, ints, c.requires.day), c.civil_at.ensures.time)

pub returns-clause-value : goal.returns-clause-value
returns-clause-value c = λ civil date time.
    (let zone = plain_zone c.args.zone.now in
    let same = one_civil c.civil_at.result civil c.args.day _ (c.civil_at.ensures.date ∙ omega (arith, ints, c.requires.day)) date c.civil_at.ensures.time time in
    let off = c.offset_ms.ensures.value ∙ ap (λ x. (compatible_offset (ambiguous_at zone x)).seconds *ℤ pos 1_000) same in
    omega (arith, ints, picked zone civil, date, time, c.requires.day, c.requires.time, c.local_ms-local.ensures, c.offset_ms.ensures.range, off))
