use Rattle.std.proofs.Common.{refl, sym, ap, subst, ◌∙◌, false, true}
use Rattle.std.specs.Prelude.{unwrap_or}
use Rattle.ob_io.specs.Links.{IsFresh}
use Rattle.ob_super.specs.Rounds.{host}
use Rattle.ob_super.specs.InHand as in_hand
use Rattle.ob_super.proofs.PartLemmas.{fresh_said}
use Rattle.ob_super.proofs.LiveLemmas.{gained_dial, gains_same, gains_from, gains_to, parts_undialled, parts_unbegun_as, parts_opened, parts_unopened}
use Rattle.ob_super.proofs.live.connect.Goals as goal

pub returns-in_default : goal.returns-in_default
returns-in_default g c =
    let u = in_hand.upstream c.args.upstream.now in
    parts_undialled g.W.L.Link.left g.W.L.Link.taken g.W.L.Link.held u _ _
    (gained_dial u _ _ _ _ true c.host.ensures (ap (λ o. unwrap_or o 0) c.port.ensures) c.in_default.ensures.dials) (gains_same _ _ c.in_default.ensures.apart)

pub returns-in_err-session : goal.returns-in_err-session
returns-in_err-session g c =
    let u = in_hand.upstream c.args.upstream.now in
    let link = c.in-Ok.link in
    let back = c.in_err-session.ensures.back in
    parts_unbegun_as g.W.L.Link.left g.W.L.Link.taken g.W.L.Link.held u _ _ link (g.W.L.Link.read_faults link) (g.W.L.Link.write_faults link) back.0 c.from_residual.result c.from_residual.ensures.0 c.in-Ok.ensures.fresh
    (gains_to _ _ _ _ (gained_dial u _ _ _ _ false c.host.ensures (ap (λ o. unwrap_or o 0) c.port.ensures) c.in-Ok.ensures.dials) c.begin.ensures.apart)
    (gains_from _ _ _ _ c.in-Ok.ensures.apart back.1) back.2

pub returns-in-Ok-open : goal.returns-in-Ok-open
returns-in-Ok-open g c =
    let u = in_hand.upstream c.args.upstream.now in
    let s = c.in_ok-session.session in
    let begun = c.in_ok-session.ensures.ok in
    let same = c.in_ok-session.ensures.none refl in
    let fresh = subst (λ x. IsFresh (g.W.L.Link.taken x) (g.W.L.Link.held x) (g.W.L.Link.read_faults x) (g.W.L.Link.write_faults x)) (sym begun.0) c.in-Ok.ensures.fresh in
    let w0 = in_hand.wire_of g.W.L.Link.left g.W.L.Link.taken g.W.L.Link.held s in
    parts_opened g.W.L.Link.left g.W.L.Link.taken g.W.L.Link.held u _ _ _ w0
    (fresh_said (host u) w0 (g.W.L.Link.read_faults s.link) (g.W.L.Link.write_faults s.link) fresh begun.2) c.in-Ok-open.ensures.opens
    (c.in-Ok-open.ensures.alive tt) (c.open.ensures.host ∙ begun.1) c.in-Ok-open.ensures.fresh
    (gains_to _ _ _ _ (gained_dial u _ _ _ _ false c.host.ensures (ap (λ o. unwrap_or o 0) c.port.ensures) c.in-Ok.ensures.dials) c.begin.ensures.apart)
    (gains_same _ _ (ap (g.W.Dialer.visits) same ∙ c.in-Ok.ensures.apart))

pub returns-in-Err : goal.returns-in-Err
returns-in-Err g c =
    let u = in_hand.upstream c.args.upstream.now in
    let s = c.in_ok-session.session in
    let t = c.open.new.session in
    let begun = c.in_ok-session.ensures.ok in
    let same = c.in_ok-session.ensures.none refl in
    let fresh = subst (λ x. IsFresh (g.W.L.Link.taken x) (g.W.L.Link.held x) (g.W.L.Link.read_faults x) (g.W.L.Link.write_faults x)) (sym begun.0) c.in-Ok.ensures.fresh in
    let w0 = in_hand.wire_of g.W.L.Link.left g.W.L.Link.taken g.W.L.Link.held s in
    let back = c.give_back.ensures.back in
    parts_unopened g.W.L.Link.left g.W.L.Link.taken g.W.L.Link.held u _ _ t.link t.framer w0 c.in-Err.fault
    (g.W.L.Link.read_faults t.link) (g.W.L.Link.write_faults t.link) (g.W.L.Link.read_faults s.link) (g.W.L.Link.write_faults s.link) back.0 c.down.result
    (fresh_said (host u) w0 (g.W.L.Link.read_faults s.link) (g.W.L.Link.write_faults s.link) fresh begun.2) c.in-Err.ensures.opens c.in-Err.ensures.link
    (gains_to _ _ _ _ (gains_to _ _ _ _ (gained_dial u _ _ _ _ false c.host.ensures (ap (λ o. unwrap_or o 0) c.port.ensures) c.in-Ok.ensures.dials) c.begin.ensures.apart) c.give_back.ensures.apart)
    (gains_from _ _ _ _ (ap (g.W.Dialer.visits) same ∙ c.in-Ok.ensures.apart) back.1) back.2 c.down.ensures
