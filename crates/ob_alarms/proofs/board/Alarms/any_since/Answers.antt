use Rattle.std.proofs.Common.{◌≡◌, ◌-◌, Bool, List, take, drop, reverse, sym, ap, ◌∙◌, subst}
use Rattle.std.specs.List.{list_any}
use Rattle.ob_alarms.specs.Changes.{State}
use Rattle.ob_alarms.specs.Soundness.{EventsShowAlarms}
use Rattle.ob_alarms.specs.declared.alarm.Alarm.{Alarm}
use Rattle.ob_alarms.proofs.EventsSince.{within_since, part_tells}
use Rattle.ob_alarms.proofs.board.Alarms.any_since.Goals as goal

pub returns-then-last-first : goal.returns-then-last-first
returns-then-last-first c =
    let told = subst (λ (s : State). EventsShowAlarms c.self.inside.list.rules (reverse s.events) s.alarms) c.self.view_is c.self.invariant.told in
    let same : c.all.result.now ≡ c.args.self.now.alarms = c.all.ensures ∙ ap (λ (s : State). s.alarms) c.self.view_is in
    c.any_since.ensures
    ∙ ap (λ (l : List Alarm). list_any (within_since c.args.start.now c.args.end.now c.args.from) (take (c.raised_within-first.result.1 - c.raised_within-first.result.0) (drop c.raised_within-first.result.0 l))) same
    ∙ part_tells c.args.start.now c.args.end.now _ c.args.self.now c.args.from c.raised_within-first.result.0 c.raised_within-first.result.1 told c.raised_within-first.ensures
