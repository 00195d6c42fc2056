use Rattle.std.proofs.Common.{refl, ap, subst, inl, inr}
use Rattle.std.specs.Prelude.{Option, Some}
use Rattle.ob_io.specs.Links.{inlet}
use Rattle.ob_http.specs.Asking.{request_text}
use Rattle.ob_object.specs.Object.{Object}
use Rattle.ob_values.specs.declared.verb.Verb.TheVariants.{Post}
use Rattle.ob_client.specs.Sessions.{Asks, body_text}
use Rattle.ob_console.specs.Acks.{Calls, standing, ack_request}
use Rattle.ob_console.proofs.ack_call.acknowledge_at.Goals as goal

pub returns-in_default : goal.returns-in_default
returns-in_default g c = inr (refl, refl)

pub returns : goal.returns
returns g c =
    let s = c.args.session.now in
    let t = c.call.new.self in
    let target = c.args.target.now in
    let user = c.args.user.now in
    let old = standing (g.L.Link.held s.link) (inlet (g.L.Link.left s.link) (g.L.Link.taken s.link)) (g.L.Link.read_faults s.link) (g.L.Link.write_faults s.link) s.host s.framer s.is_dead in
    let new = standing (g.L.Link.held t.link) (inlet (g.L.Link.left t.link) (g.L.Link.taken t.link)) (g.L.Link.read_faults t.link) (g.L.Link.write_faults t.link) t.host t.framer t.is_dead in
    let calls : Calls (ack_request target user) old new c.call.result = record {
      died = λ e. ((c.call.ensures.dead e).0, ap (λ x. standing (g.L.Link.held x.link) (inlet (g.L.Link.left x.link) (g.L.Link.taken x.link)) (g.L.Link.read_faults x.link) (g.L.Link.write_faults x.link) x.host x.framer x.is_dead) (c.call.ensures.dead e).1);
      alive = c.call.ensures.alive;
      asks = λ e. subst (λ (b : Option Object). Asks old.written new.written (request_text Post target s.host (body_text b)) c.call.result) (ap (λ x. Some x) c.in-Ok.ensures) (c.call.ensures.asks e);
      reads = c.call.ensures.reads;
      stands = c.call.ensures.stands;
      later = c.call.ensures.later;
      cause = c.call.ensures.cause;
    } in
    inl calls
