use Rattle.ob_io.specs.Told.{Gains-none}
use Rattle.ob_super.specs.InHand as in_hand
use Rattle.ob_super.proofs.LiveLemmas.{gains_same, parts_polled, parts_unpolled}
use Rattle.ob_super.proofs.live.refresh.Goals as goal

pub returns-in-Ok : goal.returns-in-Ok
returns-in-Ok g c = λ calls is.
    parts_polled g.W.L.Link.left g.W.L.Link.taken g.W.L.Link.held (in_hand.upstream c.args.upstream.now) _ _ calls c.args.live
    _ is c.in-Ok.ensures.brings
    (c.in-Ok.ensures.alive tt) c.poll.ensures.host c.poll.ensures.fresh (Gains-none _) (Gains-none _)

pub returns-in-Err : goal.returns-in-Err
returns-in-Err g c = λ calls is.
    let s = c.args.live.session in
    let t = c.poll.new.session in
    let back = c.give_back.ensures.back in
    parts_unpolled g.W.L.Link.left g.W.L.Link.taken g.W.L.Link.held (in_hand.upstream c.args.upstream.now) _ _ calls c.args.live t.link t.framer c.in-Err.fault
    (g.W.L.Link.read_faults t.link) (g.W.L.Link.write_faults t.link) (g.W.L.Link.read_faults s.link) (g.W.L.Link.write_faults s.link) back.0 c.down.result
    is c.in-Err.ensures.brings c.in-Err.ensures.link (gains_same _ _ c.give_back.ensures.apart) back.1 back.2 c.down.ensures
