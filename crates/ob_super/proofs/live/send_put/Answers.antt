use Rattle.std.proofs.Common.{refl, sym, ap, subst, ◌∙◌}
use Rattle.std.specs.Option.{option_copied}
use Rattle.ob_super.specs.Calls.{put_on}
use Rattle.ob_super.specs.Turns.{Up}
use Rattle.ob_super.specs.InHand as in_hand
use Rattle.ob_super.proofs.LiveLemmas.{gains_same, sends_answered_as, sends_broken}
use Rattle.ob_super.proofs.live.send_put.Goals as goal

pub returns-in-Ok-clause-sends : goal.returns-in-Ok-clause-sends
returns-in-Ok-clause-sends g c = λ calls is.
    sends_answered_as g.W.L.Link.left g.W.L.Link.taken g.W.L.Link.held (in_hand.upstream c.args.followed.now.upstream) _ _ calls c.in-Some.live
    _ _ c.args.target.now (option_copied c.args.body) c.in-Ok.reply (ap (λ x. x.live) c.put_live.ensures.put)
    (subst (λ x. in_hand.Stands g.W.L.Link.left g.W.L.Link.taken g.W.L.Link.held (in_hand.upstream c.args.followed.now.upstream) (Up calls) x) (sym c.take.ensures.value ∙ c.in-Some.is) is)
    c.in-Ok.ensures.calls (c.in-Ok.ensures.alive tt) c.put.ensures.host refl (ap (λ d. in_hand.outside (g.W.Dialer.dials d) (g.W.Dialer.visits d)) c.put_live.ensures.apart)

pub returns-in-Err-clause-sends : goal.returns-in-Err-clause-sends
returns-in-Err-clause-sends g c = λ calls is.
    let s = c.in-Some.live.session in
    let t = c.put.new.session in
    let back = c.give_back.ensures.back in
    sends_broken g.W.L.Link.left g.W.L.Link.taken g.W.L.Link.held (in_hand.upstream c.args.followed.now.upstream) _ _ calls c.in-Some.live
    (put_on c.args.target.now (option_copied c.args.body)) t.link t.framer c.in-Err.fault
    (g.W.L.Link.read_faults t.link) (g.W.L.Link.write_faults t.link) (g.W.L.Link.read_faults s.link) (g.W.L.Link.write_faults s.link) back.0 _ c.down.result
    (subst (λ x. in_hand.Stands g.W.L.Link.left g.W.L.Link.taken g.W.L.Link.held (in_hand.upstream c.args.followed.now.upstream) (Up calls) x) (sym c.take.ensures.value ∙ c.in-Some.is) is)
    c.in-Err.ensures.calls c.in-Err.ensures.link (gains_same _ _ c.give_back.ensures.apart) back.1 back.2 c.down.ensures c.take.ensures.after
