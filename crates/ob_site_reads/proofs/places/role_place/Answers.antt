use Rattle.std.proofs.Common.{◌≡◌, ◌++◌, sym, ◌∙◌}
use Rattle.std.proofs.lemmas.Result.{IfOk-weaker}
use Rattle.ob_site_rules.specs.State.{at, numbered_from}
use Rattle.ob_site_rules.specs.Places.{point_places, event_places, alarm_places}
use Rattle.ob_plain_state.proofs.Placed.{first_of, later_of}
use Rattle.ob_site_reads.proofs.places.role_place.Goals as goal

pub returns-then-is_some : goal.returns-then-is_some
returns-then-is_some c =
    let plan = c.args.state.now.plan in
    first_of c.args.path.now (point_places plan) (event_places plan ++ alarm_places plan (numbered_from 0 plan.rules) 1 c.args.state.now.now.alarms) c.in_ok-found.found c.in_ok-found.ensures (sym c.is_some.ensures ∙ c.if-is_some.true)

pub returns : goal.returns
returns c =
    let plan = c.args.state.now.plan in
    IfOk-weaker c.event_or_alarm.result (λ place. place ≡ at c.args.path.now (event_places plan ++ alarm_places plan (numbered_from 0 plan.rules) 1 c.args.state.now.now.alarms)) (λ place. place ≡ at c.args.path.now ((point_places plan) ++ (event_places plan ++ alarm_places plan (numbered_from 0 plan.rules) 1 c.args.state.now.now.alarms)))
    (λ place is. later_of c.args.path.now (point_places plan) (event_places plan ++ alarm_places plan (numbered_from 0 plan.rules) 1 c.args.state.now.now.alarms) c.in_ok-found.found place c.in_ok-found.ensures (sym c.is_some.ensures ∙ c.if-is_some.false) is) c.event_or_alarm.ensures
