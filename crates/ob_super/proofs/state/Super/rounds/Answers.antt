use Rattle.std.proofs.Common.{◌≡◌, ℕ, Ok, refl, subst, ◌∙◌, arith}
use Rattle.ob_super.specs.InHand as in_hand
use Rattle.ob_super.proofs.AnswerLemmas.{many_none, many_more, many_stop}
use Rattle.ob_super.proofs.state.Super.rounds.Goals as goal

pub loop-init : goal.loop-init
loop-init g c =
    (refl, many_none g.L.Link.left g.L.Link.taken g.L.Link.held (in_hand.outside (g.W.Dialer.dials c.args.dialer.now) (g.W.Dialer.visits c.args.dialer.now)) c.args.self.now)

pub loop-preserved : goal.loop-preserved
loop-preserved g c =
    let before = in_hand.outside (g.W.Dialer.dials c.args.dialer.now) (g.W.Dialer.visits c.args.dialer.now) in
    let mid = in_hand.outside (g.W.Dialer.dials c.loop.dialer) (g.W.Dialer.visits c.loop.dialer) in
    let after = in_hand.outside (g.W.Dialer.dials c.round.new.dialer) (g.W.Dialer.visits c.round.new.dialer) in (
      c.in_ok-round.ensures.same ∙ c.loop.invariant.0,
      many_more g.L.Link.left g.L.Link.taken g.L.Link.held before mid after c.args.self.now c.loop.self c.round.new.self c.loop.counter
          tt c.in_ok-round.field-0 tt c.loop.invariant.0 c.loop.invariant.1 c.in_ok-round.ensures.rounds,
    )

pub returns-in_err-round-clause-same : goal.returns-in_err-round-clause-same
returns-in_err-round-clause-same g c = c.in_err-round.ensures.same ∙ c.loop.invariant.0

pub returns-in_err-round-clause-rounds : goal.returns-in_err-round-clause-rounds
returns-in_err-round-clause-rounds g c =
    let before = in_hand.outside (g.W.Dialer.dials c.args.dialer.now) (g.W.Dialer.visits c.args.dialer.now) in
    let mid = in_hand.outside (g.W.Dialer.dials c.loop.dialer) (g.W.Dialer.visits c.loop.dialer) in
    let after = in_hand.outside (g.W.Dialer.dials c.round.new.dialer) (g.W.Dialer.visits c.round.new.dialer) in
    many_stop g.L.Link.left g.L.Link.taken g.L.Link.held before mid after c.args.self.now c.loop.self c.round.new.self c.loop.counter c.args.count
    tt c.from_residual.result c.from_residual.ensures.0 c.loop-test.true c.loop.invariant.0 c.loop.invariant.1 c.in_err-round.ensures.rounds

pub returns-clause-same : goal.returns-clause-same
returns-clause-same g c = c.loop.invariant.0

pub returns-clause-rounds : goal.returns-clause-rounds
returns-clause-rounds g c =
    let before = in_hand.outside (g.W.Dialer.dials c.args.dialer.now) (g.W.Dialer.visits c.args.dialer.now) in
    let after = in_hand.outside (g.W.Dialer.dials c.loop.dialer) (g.W.Dialer.visits c.loop.dialer) in
    let all : c.loop.counter ≡ c.args.count = omega (arith, c.loop-test.false, c.loop.auto.counter-end) in
    subst (λ (n : ℕ). in_hand.ManyAll g.L.Link.left g.L.Link.taken g.L.Link.held before after c.args.self.now c.loop.self n (Ok tt)) all c.loop.invariant.1
