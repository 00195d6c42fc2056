use Rattle.std.proofs.Common.{sym}
use Rattle.ob_watching.specs.Tables.{lookup}
use Rattle.ob_site_watches.proofs.Answering.{live_there}
use Rattle.ob_site_watches.proofs.Grown.{one_held, told_held}
use Rattle.ob_site_watches.proofs.adding.refused_for.Goals as goal

pub returns : goal.returns
returns c =
    let n = c.args.place.now.number in
    let old = c.args.watches.now in
    let w = c.in_ok-watch.watch.now in
    λ plan. told_held plan n old c.args.place.now.room c.args.text.now w c.in_ok-fault.fault c.fault_told.result
    (λ v there. one_held (lookup n old.watches) w v (live_there c.args.place.now.moment n old.watches w c.numbers-numbers.ensures.differ (sym c.in_ok-watch.ensures)) there)
    c.in_ok-fault.ensures (c.fault_told.ensures plan)
