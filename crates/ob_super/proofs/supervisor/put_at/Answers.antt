use Rattle.std.proofs.Common.{◌≡◌, sym, ap, subst, ◌∙◌, Ok, Err}
use Rattle.std.specs.Prelude.{IfOk}
use Rattle.std.specs.Option.{option_copied}
use Rattle.ob_asking.specs.Places.{place_at}
use Rattle.ob_super.specs.Calls.{put_on}
use Rattle.ob_super.specs.Trees.{object_at, placed}
use Rattle.ob_super.specs.InHand as in_hand
use Rattle.ob_super.proofs.SuperLemmas.{may_not, may_sent, may_broken, may_unsent_as}
use Rattle.ob_super.proofs.PlaceLemmas.{href_at}
use Rattle.ob_super.proofs.supervisor.put_at.Goals as goal

pub returns-in_default-clause-puts : goal.returns-in_default-clause-puts
returns-in_default-clause-puts g c = λ calls href stands at.
    let up = c.args.followed.now.upstream in
    let led = c.as_str-href.ensures.value ∙ href_at up.hrefs.items c.args.place c.index.result.now href c.requires.there c.index.ensures at in
    let place = place_at up.lobby.url href in
    let body = option_copied c.args.body in
    may_not g.W.L.Link.left g.W.L.Link.taken g.W.L.Link.held (in_hand.upstream up) (in_hand.outside (g.W.Dialer.dials c.args.dialer.now) (g.W.Dialer.visits c.args.dialer.now)) calls (object_at up.name c.args.place) place body
    c.args.followed.now.live c.not_supported.result (sym c.in_default.is ∙ c.in_ok-asked.ensures ∙ ap (place_at up.lobby.url) led) stands c.not_supported.ensures

pub returns-in_err-reply-clause-puts : goal.returns-in_err-reply-clause-puts
returns-in_err-reply-clause-puts g c = λ calls href stands at.
    let up = c.args.followed.now.upstream in
    let led = c.as_str-href.ensures.value ∙ href_at up.hrefs.items c.args.place c.index.result.now href c.requires.there c.index.ensures at in
    let place = place_at up.lobby.url href in
    let body = option_copied c.args.body in
    let before = in_hand.outside (g.W.Dialer.dials c.args.dialer.now) (g.W.Dialer.visits c.args.dialer.now) in
    let after = in_hand.outside (g.W.Dialer.dials c.send_put.new.dialer) (g.W.Dialer.visits c.send_put.new.dialer) in
    let asked = c.in-Some.asked in
    let at_place = sym c.in-Some.is ∙ c.in_ok-asked.ensures ∙ ap (place_at up.lobby.url) led in
    may_unsent_as g.W.L.Link.left g.W.L.Link.taken g.W.L.Link.held (in_hand.upstream up) before after calls (object_at up.name c.args.place) place asked body c.send_put.new.followed.live
    c.from_residual-in_err-reply.result c.from_residual-in_err-reply.ensures.0 at_place
    (subst (λ x. in_hand.SendsOn g.W.L.Link.left g.W.L.Link.taken g.W.L.Link.held before after (in_hand.upstream up) calls (put_on x body) c.send_put.new.followed.live (Err c.in_err-reply.field-0.0)) c.into_target-target.ensures
    (c.in_err-reply.ensures.sends calls stands))

pub returns-in-Some-2-clause-puts : goal.returns-in-Some-2-clause-puts
returns-in-Some-2-clause-puts g c = λ calls href stands at.
    let up = c.args.followed.now.upstream in
    let led = c.as_str-href.ensures.value ∙ href_at up.hrefs.items c.args.place c.index.result.now href c.requires.there c.index.ensures at in
    let place = place_at up.lobby.url href in
    let body = option_copied c.args.body in
    let before = in_hand.outside (g.W.Dialer.dials c.args.dialer.now) (g.W.Dialer.visits c.args.dialer.now) in
    let after = in_hand.outside (g.W.Dialer.dials c.send_put.new.dialer) (g.W.Dialer.visits c.send_put.new.dialer) in
    let asked = c.in-Some.asked in
    let at_place = sym c.in-Some.is ∙ c.in_ok-asked.ensures ∙ ap (place_at up.lobby.url) led in
    may_sent g.W.L.Link.left g.W.L.Link.taken g.W.L.Link.held (in_hand.upstream up) before after calls (object_at up.name c.args.place) place asked body c.send_put.new.followed.live c.in-Some-2.reply c.placed.result at_place
    (subst (λ r. in_hand.SendsOn g.W.L.Link.left g.W.L.Link.taken g.W.L.Link.held before after (in_hand.upstream up) calls (put_on asked.target body) c.send_put.new.followed.live (Ok r)) c.in-Some-2.is
    (subst (λ x. in_hand.SendsOn g.W.L.Link.left g.W.L.Link.taken g.W.L.Link.held before after (in_hand.upstream up) calls (put_on x body) c.send_put.new.followed.live (Ok c.in_ok-reply.field-0)) c.into_target-target.ensures
    (c.in_ok-reply.ensures.sends calls stands)))
    (subst (λ x. IfOk c.placed.result (λ o. o ≡ placed x c.in-Some-2.reply)) c.in_ok-path.ensures c.placed.ensures)

pub returns-in-None-clause-puts : goal.returns-in-None-clause-puts
returns-in-None-clause-puts g c = λ calls href stands at.
    let up = c.args.followed.now.upstream in
    let led = c.as_str-href.ensures.value ∙ href_at up.hrefs.items c.args.place c.index.result.now href c.requires.there c.index.ensures at in
    let place = place_at up.lobby.url href in
    let body = option_copied c.args.body in
    let before = in_hand.outside (g.W.Dialer.dials c.args.dialer.now) (g.W.Dialer.visits c.args.dialer.now) in
    let after = in_hand.outside (g.W.Dialer.dials c.send_put.new.dialer) (g.W.Dialer.visits c.send_put.new.dialer) in
    let asked = c.in-Some.asked in
    let at_place = sym c.in-Some.is ∙ c.in_ok-asked.ensures ∙ ap (place_at up.lobby.url) led in
    may_broken g.W.L.Link.left g.W.L.Link.taken g.W.L.Link.held (in_hand.upstream up) before after calls (object_at up.name c.args.place) place asked body c.send_put.new.followed.live c.err.result at_place
    (subst (λ r. in_hand.SendsOn g.W.L.Link.left g.W.L.Link.taken g.W.L.Link.held before after (in_hand.upstream up) calls (put_on asked.target body) c.send_put.new.followed.live (Ok r)) c.in-None.is
    (subst (λ x. in_hand.SendsOn g.W.L.Link.left g.W.L.Link.taken g.W.L.Link.held before after (in_hand.upstream up) calls (put_on x body) c.send_put.new.followed.live (Ok c.in_ok-reply.field-0)) c.into_target-target.ensures
    (c.in_ok-reply.ensures.sends calls stands)))
    c.err.ensures
