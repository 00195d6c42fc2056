use Rattle.std.proofs.Common.{ℕ, ◌+◌, drop, ap, ◌∙◌}
use Rattle.ob_site_settling.specs.Telling.{count_before}
use Rattle.ob_site_settling.proofs.Looping.{count_next}
use Rattle.ob_site_settling.proofs.noted.count_before.Goals as goal

pub loop-event-preserved : goal.loop-event-preserved
loop-event-preserved c =
    ap (λ (n : ℕ). count_before (drop (c.loop-event.event-index + 1) c.args.events.now) n) c.count_before_event-before.ensures
    ∙ count_next c.args.events.now c.loop-event.event-index c.args.count c.loop-event.before c.event-item.result c.loop-event-test.true c.event-item.is c.loop-event.invariant
