use Rattle.std.proofs.Common.{arith, subst, sym, pos, to_z, w64, rules}
use Rattle.std.specs.List.{All}
use Rattle.std.proofs.lemmas.Int.{ints}
use Rattle.jiff.specs.Words.{plain_zone, IsBetween}
use Rattle.ob_weekly.specs.Search.{AreDue, IsJustBefore}
use Rattle.ob_weekly.proofs.Quiet.{none_due, before_first, next_first, due_range}
use Rattle.ob_weekly.proofs.schedule.Schedules.quiet_within.Goals as goal

pub just_before-requires-clause-range : goal.just_before-requires-clause-range
just_before-requires-clause-range c =
    subst (All (λ d. IsBetween (pos 1) (pos 253_402_300_799_999) d.at)) (sym c.deref-2.ensures.value)
    (due_range _ _ _ _ _ c.in_ok-dues.ensures (omega (arith, ints, c.ms.ensures.value, c.ms.ensures.range)) (omega (arith, ints, c.ms-2.ensures.value, c.ms-2.ensures.range)))

pub returns-then-is_empty-clause-quiet : goal.returns-then-is_empty-clause-quiet
returns-then-is_empty-clause-quiet c =
    none_due _ _ _ _ _ (subst (λ ss. AreDue (plain_zone c.args.self.now.zone) ss (to_z w64 c.ms.result) (to_z w64 c.ms-2.result) c.in_ok-dues.dues.items) c.deref.ensures.value c.in_ok-dues.ensures)
    c.args.from c.later-to.result (omega (arith, ints, c.ms.ensures.value, c.ms.ensures.range)) (omega (arith, ints, c.ms-2.ensures.value, c.ms-2.ensures.range)) (search rules)

pub returns-clause-quiet : goal.returns-clause-quiet
returns-clause-quiet c =
    before_first _ _ _ _ _ (subst (λ ss. AreDue (plain_zone c.args.self.now.zone) ss (to_z w64 c.ms.result) (to_z w64 c.ms-2.result) c.in_ok-dues.dues.items) c.deref.ensures.value c.in_ok-dues.ensures)
    c.args.from _ (omega (arith, ints, c.ms.ensures.value, c.ms.ensures.range)) (subst (λ ds. IsJustBefore ds c.just_before.result) c.deref-2.ensures.value c.just_before.ensures)

pub returns-clause-next : goal.returns-clause-next
returns-clause-next c = λ _.
    next_first _ _ _ _ _ (subst (λ ss. AreDue (plain_zone c.args.self.now.zone) ss (to_z w64 c.ms.result) (to_z w64 c.ms-2.result) c.in_ok-dues.dues.items) c.deref.ensures.value c.in_ok-dues.ensures) _
    (subst (λ ds. IsJustBefore ds c.just_before.result) c.deref-2.ensures.value c.just_before.ensures)
