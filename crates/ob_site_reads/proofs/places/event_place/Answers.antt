use Rattle.std.proofs.Common.{◌≡◌, ◌++◌, sym, ap, ◌∙◌}
use Rattle.std.proofs.lemmas.Result.{IfOk-weaker}
use Rattle.ob_site_rules.specs.State.{at}
use Rattle.ob_site_rules.specs.Places.{history_places, subject_places}
use Rattle.ob_site_rules.specs.declared.plan.Plan.{Plan}
use Rattle.ob_plain_state.proofs.Placed.{first_of, later_of}
use Rattle.ob_site_reads.proofs.places.event_place.Goals as goal

pub returns-then-not-is_event_name : goal.returns-then-not-is_event_name
returns-then-not-is_event_name c = sym (c.is_event_name.ensures c.if-not-is_event_name.true c.args.state.now.plan)

pub returns-then-is_some : goal.returns-then-is_some
returns-then-is_some c =
    let plan = c.args.state.now.plan in
    first_of c.args.path.now (history_places plan) (subject_places plan.subject) c.in_ok-found.found c.in_ok-found.ensures (sym c.is_some.ensures ∙ c.if-is_some.true)

pub returns : goal.returns
returns c =
    let plan = c.args.state.now.plan in
    let p = c.args.path.now in
    IfOk-weaker c.subject_place.result (λ place. place ≡ at p (subject_places c.plan.result.now.subject)) (λ place. place ≡ at p (history_places plan ++ subject_places plan.subject))
    (λ place is. later_of p (history_places plan) (subject_places plan.subject) c.in_ok-found.found place c.in_ok-found.ensures (sym c.is_some.ensures ∙ c.if-is_some.false)
    (is ∙ ap (λ (x : Plan). at p (subject_places x.subject)) c.plan.ensures)) c.subject_place.ensures
