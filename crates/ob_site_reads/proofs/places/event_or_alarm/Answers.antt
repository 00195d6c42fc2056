use Rattle.std.proofs.Common.{◌≡◌, ◌++◌, sym, ap, ◌∙◌}
use Rattle.std.proofs.lemmas.Result.{IfOk-weaker}
use Rattle.ob_alarms.specs.Changes.{State as Board}
use Rattle.ob_site_rules.specs.declared.plan.Plan.{Plan}
use Rattle.ob_site_rules.specs.State.{at, numbered_from}
use Rattle.ob_site_rules.specs.Places.{event_places, alarm_places}
use Rattle.ob_plain_state.proofs.Placed.{first_of, later_of}
use Rattle.ob_site_reads.proofs.places.event_or_alarm.Goals as goal

pub returns-then-is_some : goal.returns-then-is_some
returns-then-is_some c =
    let plan = c.args.state.now.plan in
    first_of c.args.path.now (event_places plan) (alarm_places plan (numbered_from 0 plan.rules) 1 c.args.state.now.now.alarms) c.in_ok-found.found c.in_ok-found.ensures (sym c.is_some.ensures ∙ c.if-is_some.true)

pub returns : goal.returns
returns c =
    let plan = c.args.state.now.plan in
    let p = c.args.path.now in
    let alarms = c.args.state.now.now.alarms in
    let rules = numbered_from 0 plan.rules in
    let held = c.alarms.result.now.alarms in
    IfOk-weaker c.alarm_place.result (λ place. place ≡ at p (alarm_places c.plan.result.now (numbered_from 0 c.plan.result.now.rules) 1 held)) (λ place. place ≡ at p (event_places plan ++ alarm_places plan rules 1 alarms))
    (λ place is. later_of p (event_places plan) (alarm_places plan rules 1 alarms) c.in_ok-found.found place c.in_ok-found.ensures (sym c.is_some.ensures ∙ c.if-is_some.false)
    (is ∙ ap (λ (x : Plan). at p (alarm_places x (numbered_from 0 x.rules) 1 held)) c.plan.ensures ∙ ap (λ (b : Board). at p (alarm_places plan rules 1 b.alarms)) c.alarms.ensures)) c.alarm_place.ensures
