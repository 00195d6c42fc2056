use Rattle.std.proofs.Common.{◌∙◌, sym, arith}
use Rattle.ob_super.specs.InHand as in_hand
use Rattle.ob_super.proofs.RoundLemmas.{dials_end, dials_stop, dials_more, fewer_wait}
use Rattle.ob_super.proofs.supervisor.+dial_over.Goals as goal

pub returns-in_default-clause-dials : goal.returns-in_default-clause-dials
returns-in_default-clause-dials g t c =
    dials_end g.W.L.Link.left g.W.L.Link.taken g.W.L.Link.held (in_hand.outside (g.W.Dialer.dials c.args.dialer.now) (g.W.Dialer.visits c.args.dialer.now)) c.args.number c.args.all.now (sym c.in_default.is ∙ c.next_dial.ensures.next)

pub returns-in_err-dial_at-clause-dials : goal.returns-in_err-dial_at-clause-dials
returns-in_err-dial_at-clause-dials g t c =
    dials_stop g.W.L.Link.left g.W.L.Link.taken g.W.L.Link.held (in_hand.outside (g.W.Dialer.dials c.args.dialer.now) (g.W.Dialer.visits c.args.dialer.now)) (in_hand.outside (g.W.Dialer.dials c.dial_at.new.dialer) (g.W.Dialer.visits c.dial_at.new.dialer)) c.args.number c.in-Some.place c.args.all.now c.dial_at.new.all
    c.from_residual.result c.from_residual.ensures.0 c.in-Some.ensures.next c.in_err-dial_at.ensures.dials

pub returns-clause-dials : goal.returns-clause-dials
returns-clause-dials g t c =
    dials_more g.W.L.Link.left g.W.L.Link.taken g.W.L.Link.held (in_hand.outside (g.W.Dialer.dials c.args.dialer.now) (g.W.Dialer.visits c.args.dialer.now)) (in_hand.outside (g.W.Dialer.dials c.dial_at.new.dialer) (g.W.Dialer.visits c.dial_at.new.dialer)) (in_hand.outside (g.W.Dialer.dials c.dial_over.new.dialer) (g.W.Dialer.visits c.dial_over.new.dialer))
    c.args.number c.in-Some.place c.args.all.now c.dial_at.new.all c.dial_over.new.all c.dial_over.result c.in_ok-dial_at.field-0
    c.in-Some.ensures.next c.in_ok-dial_at.ensures.same c.in_ok-dial_at.ensures.dials c.dial_over.ensures.dials

pub dial_over-requires : goal.dial_over-requires
dial_over-requires g t c κs within =
    let less = fewer_wait c.args.number c.in-Some.place (in_hand.states c.args.all.now) (in_hand.states c.dial_at.new.all) (sym c.in-Some.ensures.next) c.in_ok-dial_at.ensures.spent in
    (omega (arith, less, c.decreases), within)
