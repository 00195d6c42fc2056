use Rattle.std.proofs.Common.{arith, subst}
use Rattle.jiff.specs.Words.{plain_zone}
use Rattle.ob_weekly.specs.Search.{Adds, IsDueIn, IsDueInAt}
use Rattle.ob_weekly.proofs.Adding.{next_place}
use Rattle.ob_weekly.proofs.Dates.{adds_in, all_schedules}
use Rattle.ob_weekly.proofs.due.push_schedules.Goals as goal

pub loop-place-preserved : goal.loop-place-preserved
loop-place-preserved c =
    let zone = plain_zone c.args.zone.now in
    let at = c.entries_at.ensures.is in
    let adds = subst (λ es. Adds (IsDueIn zone c.loop-place.place es c.args.span.low c.args.span.to) c.loop-place.dues.items c.push_entries.new.dues.items) at.2 c.in_ok-push_entries.ensures in
    next_place (IsDueInAt zone c.args.schedules.now c.args.span.low c.args.span.to) c.args.dues.now.items c.loop-place.dues.items c.push_entries.new.dues.items c.loop-place.place c.loop-place.invariant
    (adds_in zone c.args.schedules.now c.args.span.low c.args.span.to c.loop-place.place at.0 c.loop-place.dues.items c.push_entries.new.dues.items at.1 adds)

pub returns : goal.returns
returns c = all_schedules (plain_zone c.args.zone.now) c.args.schedules.now c.args.span.low c.args.span.to c.loop-place.place c.args.dues.now.items c.loop-place.dues.items (omega (arith, c.loop-place-test.false)) c.loop-place.invariant
