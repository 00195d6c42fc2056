use Rattle.std.proofs.Common.{◌∷◌, [], ◌++◌, List, length, sym, ap, ◌∙◌, arith}
use Rattle.std.specs.List.{filter}
use Rattle.ob_object.specs.Object.{Object}
use Rattle.ob_alarms.specs.declared.alarm.Event.{Event}
use Rattle.ob_site_rules.specs.Entries.{event_object}
use Rattle.ob_site_rules.specs.Watched.{passes}
use Rattle.ob_site_reads.proofs.Eventful.{none_yet, one_event}
use Rattle.ob_site_reads.proofs.Raised.{none_early}
use Rattle.ob_site_reads.proofs.events.alarm_events.Goals as goal

pub returns-then-count-given : goal.returns-then-count-given
returns-then-count-given c =
    let same = ap (λ (l : List Event). length l) c.events.ensures in
    let few = c.if-count-given.true in
    c.new.ensures.items ∙ sym (none_yet c.args.bounds.now c.args.alarms.now c.args.given (length c.args.alarms.now.events) (omega (arith, same, few)))

pub loop-event-init : goal.loop-event-init
loop-event-init c =
    let same = ap (λ (l : List Event). length l) c.events.ensures in
    let high = c.max.ensures in
    let most = c.min-first.ensures in
    c.new-events.ensures.items
    ∙ sym (none_early c.args.bounds.now c.args.alarms.now c.args.given c.first_passing.result c.min-first.result (omega (arith, same, most)) (λ n above below. omega (arith, high, most)) c.first_passing.ensures)

pub loop-event-preserved : goal.loop-event-preserved
loop-event-preserved c =
    let within = c.if-count-given.false in
    let high = c.max.ensures in
    let most = c.min-first.ensures in
    let from = c.loop-event.auto.event in
    c.in_ok-put_event.ensures
    ∙ ap (λ (l : List Object). l ++ filter (passes c.args.bounds.now) (event_object c.args.alarms.now c.loop-event.event ∷ [])) c.loop-event.invariant
    ∙ sym (one_event c.args.bounds.now c.args.alarms.now c.args.given c.loop-event.event (omega (arith, within, high, most, from)))
