use Rattle.std.proofs.Common.{◌∙◌, Option, ap, sym, subst}
use Rattle.ob_http.specs.Asking.{request_text}
use Rattle.ob_object.specs.Object.{Object}
use Rattle.ob_client.specs.Sessions.{Asks, body_text}
use Rattle.ob_client.proofs.SessionLemmas.{never}
use Rattle.ob_dialogue.specs.InHand as in_hand
use Rattle.ob_dialogue.proofs.ExchangeLemmas.{call_exchanges, call_goes_on, call_by_link, call_lived, ack_exchanges, ack_goes_on, ack_host, ack_later, ack_by_link, ack_lived}
use Rattle.ob_dialogue.proofs.link.ask.Goals as goal

-- ---- an alarm is acknowledged

pub returns-in-Ack-clause-exchanges : goal.returns-in-Ack-clause-exchanges
returns-in-Ack-clause-exchanges g c =
    ack_exchanges (in_hand.stage c.args.stage.now) _ c.in-Ack.target c.in-Ack.user _ _ c.acknowledge_at.result c.gave.result (ap in_hand.stage c.in-Ack.is) c.gave.ensures c.requires c.acknowledge_at.ensures

pub returns-in-Ack-clause-alive : goal.returns-in-Ack-clause-alive
returns-in-Ack-clause-alive g c = ack_goes_on c.in-Ack.target c.in-Ack.user _ _ c.acknowledge_at.result c.gave.result c.gave.ensures c.requires c.acknowledge_at.ensures

pub returns-in-Ack-clause-host : goal.returns-in-Ack-clause-host
returns-in-Ack-clause-host g c = ack_host c.in-Ack.target c.in-Ack.user _ _ c.acknowledge_at.result c.requires c.acknowledge_at.ensures

pub returns-in-Ack-clause-later : goal.returns-in-Ack-clause-later
returns-in-Ack-clause-later g c = ack_later c.in-Ack.target c.in-Ack.user _ _ c.acknowledge_at.result c.acknowledge_at.ensures

pub returns-in-Ack-clause-link : goal.returns-in-Ack-clause-link
returns-in-Ack-clause-link g c = ack_by_link c.in-Ack.target c.in-Ack.user _ _ c.acknowledge_at.result c.gave.result c.gave.ensures c.acknowledge_at.ensures

pub returns-in-Ack-clause-lives : goal.returns-in-Ack-clause-lives
returns-in-Ack-clause-lives g c = ack_lived c.in-Ack.target c.in-Ack.user _ _ c.acknowledge_at.result c.gave.result c.gave.ensures c.requires c.acknowledge_at.ensures

-- ---- any other request

pub returns-clause-exchanges : goal.returns-clause-exchanges
returns-clause-exchanges g c =
    let old = c.args.session.now in
    let new = c.call.new.self in
    let r = c.in-Some.request in
    call_exchanges old.host (in_hand.stage c.args.stage.now) r _ _ c.call.result c.gave-2.result c.gave-2.ensures
    (sym c.in-Ok.ensures ∙ c.in-Some.is)
    (subst (λ (b : Option Object). Asks (g.L.Link.held old.link) (g.L.Link.held new.link) (request_text r.verb r.target old.host (body_text b)) c.call.result) c.as_ref.ensures.value (c.call.ensures.asks c.requires))
    (c.call.ensures.reads c.requires)

pub returns-clause-alive : goal.returns-clause-alive
returns-clause-alive g c = λ replied. (c.call.ensures.stands c.requires).1 ∙ call_goes_on c.call.result c.gave-2.result c.gave-2.ensures replied

pub returns-clause-host : goal.returns-clause-host
returns-clause-host g c = (c.call.ensures.stands c.requires).0

pub returns-clause-later : goal.returns-clause-later
returns-clause-later g c = c.call.ensures.later

pub returns-clause-link : goal.returns-clause-link
returns-clause-link g c = λ failed. c.call.ensures.cause (call_by_link c.call.result c.gave-2.result c.gave-2.ensures failed)

pub returns-clause-lives : goal.returns-clause-lives
returns-clause-lives g c = call_lived c.call.result c.gave-2.result c.gave-2.ensures (λ dead. never (sym c.requires ∙ c.call.ensures.alive dead))
