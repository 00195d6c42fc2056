use Rattle.std.proofs.Common.{arith}
use Rattle.jiff.specs.Words.{plain_zone}
use Rattle.ob_weekly.specs.Search.{IsDueAt}
use Rattle.ob_weekly.proofs.Adding.{next_place}
use Rattle.ob_weekly.proofs.Dates.{adds_at, all_places}
use Rattle.ob_weekly.proofs.due.push_entries.Goals as goal

pub loop-place-preserved : goal.loop-place-preserved
loop-place-preserved c =
    let zone = plain_zone c.args.zone.now in
    let adds = c.in_ok-push_entry.ensures in
    next_place (IsDueAt zone c.args.schedule c.args.entries.now c.args.span.low c.args.span.to) c.args.dues.now.items c.loop-place.dues.items c.push_entry.new.dues.items c.loop-place.place c.loop-place.invariant
    (adds_at zone c.args.schedule c.args.entries.now c.args.span.low c.args.span.to c.loop-place.place c.entry_at.result.now c.loop-place.dues.items c.push_entry.new.dues.items c.entry_at.ensures adds)

pub returns : goal.returns
returns c = all_places (plain_zone c.args.zone.now) c.args.schedule c.args.entries.now c.args.span.low c.args.span.to c.loop-place.place c.args.dues.now.items c.loop-place.dues.items (omega (arith, c.loop-place-test.false)) c.loop-place.invariant
