use Rattle.std.proofs.Common.{◌≡◌, ◌∙◌, ap, inl, subst}
use Rattle.std.specs.Option.{option_copied}
use Rattle.ob_io.specs.Told.{IsFront}
use Rattle.ob_http.specs.Asking.{request_text}
use Rattle.ob_client.specs.Sessions.{body_text}
use Rattle.ob_client.proofs.session.Session.ask.Goals as goal

pub returns-in-Ok-send-clause-asks : goal.returns-in-Ok-send-clause-asks
returns-in-Ok-send-clause-asks g c =
    let s = c.in-Ok-send.ensures.sends in
    let host = c.args.self.now.host in
    let text : c.deref-2.result.now ≡ request_text c.args.verb c.args.target.now host (body_text (option_copied c.args.body)) =
    c.deref-2.ensures.value ∙ c.in-Ok-write_request.ensures ∙ ap (request_text c.args.verb c.args.target.now host) (c.deref.ensures.value ∙ c.in-Ok.ensures) in
    record { sent = s.sent; gained = s.gained; front = subst (IsFront s.sent) text s.front; whole = inl (s.whole ∙ text) }
