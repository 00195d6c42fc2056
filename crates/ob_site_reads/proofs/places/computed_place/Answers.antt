use Rattle.std.proofs.Common.{◌≡◌, ◌++◌, sym, ap, ◌∙◌}
use Rattle.std.proofs.lemmas.Result.{IfOk-weaker}
use Rattle.ob_site_rules.specs.declared.plan.Plan.{Plan}
use Rattle.ob_site_rules.specs.State.{at, numbered_from}
use Rattle.ob_site_rules.specs.Places.{fixed_places, point_places, event_places, alarm_places}
use Rattle.ob_plain_state.proofs.Placed.{first_of, later_of}
use Rattle.ob_site_reads.proofs.places.computed_place.Goals as goal

pub returns-then-is_some : goal.returns-then-is_some
returns-then-is_some c =
    let plan = c.args.state.now.plan in
    let p = c.args.path.now in
    let rest = point_places plan ++ (event_places plan ++ alarm_places plan (numbered_from 0 plan.rules) 1 c.args.state.now.now.alarms) in
    first_of p (fixed_places plan) rest c.fixed_place-found.result (c.fixed_place-found.ensures ∙ ap (λ (x : Plan). at p (fixed_places x)) c.plan.ensures) (sym c.is_some.ensures ∙ c.if-is_some.true)

pub returns : goal.returns
returns c =
    let plan = c.args.state.now.plan in
    let p = c.args.path.now in
    let rest = point_places plan ++ (event_places plan ++ alarm_places plan (numbered_from 0 plan.rules) 1 c.args.state.now.now.alarms) in
    IfOk-weaker c.role_place.result (λ place. place ≡ at p rest) (λ place. place ≡ at p (fixed_places plan ++ rest))
    (λ place is. later_of p (fixed_places plan) rest c.fixed_place-found.result place (c.fixed_place-found.ensures ∙ ap (λ (x : Plan). at p (fixed_places x)) c.plan.ensures) (sym c.is_some.ensures ∙ c.if-is_some.false) is) c.role_place.ensures
