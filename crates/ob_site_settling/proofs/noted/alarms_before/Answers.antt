use Rattle.std.proofs.Common.{◌≡◌, ◌≤◌, ◌-◌, length, drop, ap, ◌∙◌, arith}
use Rattle.ob_alarms.specs.Changes.{State as Board}
use Rattle.ob_site_settling.specs.Telling.{events_noted}
use Rattle.ob_site_settling.proofs.Looping.{few_noted, alarms_were}
use Rattle.ob_site_settling.proofs.noted.alarms_before.Goals as goal

pub overflow_sub-all : goal.overflow_sub-all
overflow_sub-all c =
    let few : events_noted c.changes.result.now ≤ length c.args.state.now.now.events = few_noted c.changes.result.now c.args.state.now.now c.changes.ensures.can in
    let all : length c.events.result.now ≡ length c.args.state.now.now.events = ap length (c.events.ensures ∙ ap (λ (b : Board). drop 0 b.events) c.alarms-alarms.ensures) in
    omega (arith, few, all, c.events_noted-noted.ensures.value)

pub returns : goal.returns
returns c =
    let few : events_noted c.changes.result.now ≤ length c.args.state.now.now.events = few_noted c.changes.result.now c.args.state.now.now c.changes.ensures.can in
    let all : length c.events.result.now ≡ length c.args.state.now.now.events = ap length (c.events.ensures ∙ ap (λ (b : Board). drop 0 b.events) c.alarms-alarms.ensures) in
    c.count_before.ensures
    ∙ alarms_were c.changes.result.now c.args.state.now (length c.events.result.now - c.events_noted-noted.result) c.events-2.result.now c.len.result
    c.changes.ensures.can c.changes.ensures.before
    (omega (arith, few, all, c.events_noted-noted.ensures.value))
    (c.events-2.ensures ∙ ap (λ (b : Board). drop (length c.events.result.now - c.events_noted-noted.result) b.events) c.alarms-alarms.ensures)
    (c.len.ensures.len ∙ ap (λ (b : Board). length b.alarms) c.alarms-alarms.ensures)
