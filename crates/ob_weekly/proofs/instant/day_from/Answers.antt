use Rattle.std.proofs.Common.{arith, ap, ◌∙◌, ◌≡◌, ◌+◌, ◌-◌, ◌%◌, ℕ, pos, ◌+ℤ◌, to_z, of_z, w64}
use Rattle.std.proofs.lemmas.Int.{ints}
use Rattle.jiff_core.specs.Calendar.{weekday_number}
use Rattle.ob_weekly.proofs.Days.{weekday_later}
use Rattle.ob_weekly.proofs.instant.day_from.Goals as goal

pub returns-clause-weekday : goal.returns-clause-weekday
returns-clause-weekday c =
    let steps : ℕ = (c.args.day + 7 - c.args.of_base) % 7 in
    let there : to_z w64 (of_z w64 (to_z w64 (of_z w64 c.args.base) +ℤ to_z w64 steps)) ≡ c.args.base +ℤ pos steps = omega (arith, ints, c.requires.base) in
    let later : weekday_number (c.args.base +ℤ pos steps) ≡ c.args.day - 1 = weekday_later c.args.base steps (c.args.day - 1) (omega (arith, c.requires.day)) (omega (arith, c.requires.of_base, c.requires.day)) in
    ap (λ n. weekday_number n + 1) there ∙ omega (arith, later, c.requires.day)
