use Rattle.std.proofs.Common.{refl}
use Rattle.ob_super.specs.InHand as in_hand
use Rattle.ob_super.proofs.RoundLemmas.{round_stop, round_more}
use Rattle.ob_super.proofs.supervisor.round_over.Goals as goal

pub returns-in_err-poll_over-clause-rounds : goal.returns-in_err-poll_over-clause-rounds
returns-in_err-poll_over-clause-rounds g c =
    round_stop g.W.L.Link.left g.W.L.Link.taken g.W.L.Link.held (in_hand.outside (g.W.Dialer.dials c.args.dialer.now) (g.W.Dialer.visits c.args.dialer.now)) (in_hand.outside (g.W.Dialer.dials c.poll_over.new.dialer) (g.W.Dialer.visits c.poll_over.new.dialer)) c.args.number c.args.all.now c.poll_over.new.all
    c.from_residual.result c.from_residual.ensures.0 c.in_err-poll_over.ensures.fails c.in_err-poll_over.ensures.polls

pub returns-clause-rounds : goal.returns-clause-rounds
returns-clause-rounds g c =
    round_more g.W.L.Link.left g.W.L.Link.taken g.W.L.Link.held (in_hand.outside (g.W.Dialer.dials c.args.dialer.now) (g.W.Dialer.visits c.args.dialer.now)) (in_hand.outside (g.W.Dialer.dials c.poll_over.new.dialer) (g.W.Dialer.visits c.poll_over.new.dialer)) (in_hand.outside (g.W.Dialer.dials c.dial_over.new.dialer) (g.W.Dialer.visits c.dial_over.new.dialer))
    c.args.number c.args.all.now c.poll_over.new.all c.dial_over.new.all c.dial_over.result c.in_ok-poll_over.field-0
    c.in_ok-poll_over.ensures.same (c.in_ok-poll_over.ensures.begun refl) c.in_ok-poll_over.ensures.polls c.dial_over.ensures.dials
