use Rattle.std.proofs.Common.{arith, sym, subst, ◌≡◌, pos, ℤ, ◌+ℤ◌, ◌-ℤ◌, ◌*ℤ◌, ◌<ℤ◌, ◌≤ℤ◌, to_z, of_z, w64}
use Rattle.std.proofs.lemmas.Int.{ints}
use Rattle.ob_weekly.proofs.due.Span.between.Goals as goal

pub invariant_of-result-clause-first_is : goal.invariant_of-result-clause-first_is
invariant_of-result-clause-first_is c = c.weekday.ensures.value

pub invariant_of-result-clause-first_covers : goal.invariant_of-result-clause-first_covers
invariant_of-result-clause-first_covers c =
    let is : to_z w64 (of_z w64 c.first_date-first.result) ≡ c.first_date-first.result = omega (arith, ints, c.first_date-first.ensures.range) in
    subst (λ (f : ℤ). ((f *ℤ pos 86_400_000) +ℤ pos 93_600_000) ≤ℤ to_z w64 (of_z w64 c.args.low)) (sym is) c.first_date-first.ensures.covers

pub invariant_of-result-clause-last_covers : goal.invariant_of-result-clause-last_covers
invariant_of-result-clause-last_covers c =
    let is : to_z w64 (of_z w64 c.last_date-last.result) ≡ c.last_date-last.result = omega (arith, ints) in
    λ early. subst (λ (l : ℤ). to_z w64 (of_z w64 c.args.to) <ℤ ((l *ℤ pos 86_400_000) -ℤ pos 7_200_000)) (sym is)
    (c.last_date-last.ensures.covers (subst (λ (l : ℤ). l <ℤ pos 2_932_893) is early))
