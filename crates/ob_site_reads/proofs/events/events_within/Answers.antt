use Rattle.std.proofs.Common.{◌≡◌, ℕ, ◌+◌, List, length, sym, subst, ap, arith}
use Rattle.ob_object.specs.Object.{Object}
use Rattle.ob_site_reads.proofs.Numbered.{AreUpTo, part_has_passing, none_first, event_given, event_passed_by, all_numbers}
use Rattle.ob_site_reads.proofs.events.events_within.Goals.{then-given-event+in_ok-put_event, else-given-event}
use Rattle.ob_site_reads.proofs.events.events_within.Goals as goal

pub loop-event-init : goal.loop-event-init
loop-event-init c =
    let f = c.args.bounds.now in
    let s = c.args.alarms.now in
    let numbers = c.deref-event-items.result.now in
    let has = part_has_passing f s _ _ numbers c.in_ok-numbers.numbers.items c.deref-event-items.ensures.value c.raised_within-from.ensures c.in_ok-numbers.ensures.rising c.in_ok-numbers.ensures.exactly in
    subst (λ (l : List Object). AreUpTo f s c.args.given numbers 0 l) (sym c.new-events.ensures.items) (none_first f s c.args.given numbers has)

pub loop-event-preserved : goal.loop-event-preserved
loop-event-preserved c =
    let f = c.args.bounds.now in
    let s = c.args.alarms.now in
    let numbers = c.deref-event-items.result.now in
    let has = part_has_passing f s _ _ numbers c.in_ok-numbers.numbers.items c.deref-event-items.ensures.value c.raised_within-from.ensures c.in_ok-numbers.ensures.rising c.in_ok-numbers.ensures.exactly in
    let there = c.loop-event-test.true in
    elim c.if-given-event.branch [
      | then-given-event+in_ok-put_event w ↦
          subst (λ (l : List Object). AreUpTo f s c.args.given numbers (c.loop-event.event-index + 1) l) (sym (ap (λ v. v.items) w.events-is))
          (event_given f s c.args.given numbers c.loop-event.event-index c.loop-event.events.items _ has there w.if-given-event.true w.in_ok-put_event.ensures c.loop-event.invariant)
      | else-given-event w ↦
          subst (λ (l : List Object). AreUpTo f s c.args.given numbers (c.loop-event.event-index + 1) l) (sym (ap (λ v. v.items) w.events-is))
          (event_passed_by f s c.args.given numbers c.loop-event.event-index c.loop-event.events.items has there w.if-given-event.false c.loop-event.invariant)
    ]

pub returns : goal.returns
returns c =
    let f = c.args.bounds.now in
    let s = c.args.alarms.now in
    let numbers = c.deref-event-items.result.now in
    let has = part_has_passing f s _ _ numbers c.in_ok-numbers.numbers.items c.deref-event-items.ensures.value c.raised_within-from.ensures c.in_ok-numbers.ensures.rising c.in_ok-numbers.ensures.exactly in
    let past = c.loop-event-test.false in
    let within = c.loop-event.auto.event-index-end in
    let end : c.loop-event.event-index ≡ length numbers = omega arith in
    all_numbers f s c.args.given numbers c.loop-event.events.items has (subst (λ (k : ℕ). AreUpTo f s c.args.given numbers k c.loop-event.events.items) end c.loop-event.invariant)
