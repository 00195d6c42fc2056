use Rattle.std.proofs.Common.{arith, subst, ◌∙◌, ℤ}
use Rattle.std.proofs.lemmas.Int.{ints}
use Rattle.jiff.specs.Words.{plain_zone}
use Rattle.ob_weekly.specs.Search.{Adds, IsDueAmong}
use Rattle.ob_weekly.proofs.Told.{are_all}
use Rattle.ob_weekly.proofs.firing.all_due.Goals as goal

pub returns : goal.returns
returns c =
    let zone = plain_zone c.args.zone.now in
    let adds = subst (λ (t : ℤ). Adds (IsDueAmong zone c.args.schedules.now c.args.low t) c.new-dues.result.items c.push_schedules.new.dues.items) (c.between.ensures.1 ∙ omega (arith, ints, c.requires.within))
    (subst (λ (l : ℤ). Adds (IsDueAmong zone c.args.schedules.now l c.between.result.to) c.new-dues.result.items c.push_schedules.new.dues.items) (c.between.ensures.0 ∙ omega (arith, ints, c.requires.within, c.requires.low)) c.in_ok-push_schedules.ensures) in
    are_all (IsDueAmong zone c.args.schedules.now c.args.low c.args.to) c.new-dues.result.items c.push_schedules.new.dues.items c.put_in_order.new.dues.items c.new-dues.ensures.items adds c.in_ok-put_in_order.ensures
