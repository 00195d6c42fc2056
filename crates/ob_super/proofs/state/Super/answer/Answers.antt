use Rattle.std.specs.Option.{option_copied}
use Rattle.ob_super.specs.InHand as in_hand
use Rattle.ob_super.proofs.AnswerLemmas.{answers, answers_not}
use Rattle.ob_super.proofs.state.Super.answer.Goals as goal

pub returns-clause-answers : goal.returns-clause-answers
returns-clause-answers g c =
    let before = in_hand.outside (g.W.Dialer.dials c.args.dialer.now) (g.W.Dialer.visits c.args.dialer.now) in
    let mid = in_hand.outside (g.W.Dialer.dials c.round.new.dialer) (g.W.Dialer.visits c.round.new.dialer) in
    let after = in_hand.outside (g.W.Dialer.dials c.reply.new.dialer) (g.W.Dialer.visits c.reply.new.dialer) in
    answers g.L.Link.left g.L.Link.taken g.L.Link.held before mid after c.args.self.now c.round.new.self c.reply.new.self
    (in_hand.request c.args.verb c.args.path.now (option_copied c.args.body)) (in_hand.replied_by c.reply.result) c.in_ok-round.field-0 c.in_ok-round.ensures.same c.reply.ensures.past c.in_ok-round.ensures.rounds c.reply.ensures.replies

pub returns-in_err-round-clause-answers : goal.returns-in_err-round-clause-answers
returns-in_err-round-clause-answers g c =
    let before = in_hand.outside (g.W.Dialer.dials c.args.dialer.now) (g.W.Dialer.visits c.args.dialer.now) in
    let after = in_hand.outside (g.W.Dialer.dials c.round.new.dialer) (g.W.Dialer.visits c.round.new.dialer) in
    answers_not g.L.Link.left g.L.Link.taken g.L.Link.held before after c.args.self.now c.round.new.self (in_hand.request c.args.verb c.args.path.now (option_copied c.args.body))
    c.from_residual.result c.from_residual.ensures.0 c.in_err-round.ensures.rounds
