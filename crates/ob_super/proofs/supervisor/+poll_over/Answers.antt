use Rattle.std.proofs.Common.{◌∷◌, sym, subst}
use Rattle.ob_super.specs.InHand as in_hand
use Rattle.ob_super.proofs.RoundLemmas.{polls_none, polls_stop, polls_more}
use Rattle.ob_super.proofs.supervisor.+poll_over.Goals as goal

pub returns-in_default-clause-polls : goal.returns-in_default-clause-polls
returns-in_default-clause-polls g t c = polls_none g.W.L.Link.left g.W.L.Link.taken g.W.L.Link.held (in_hand.outside (g.W.Dialer.dials c.args.dialer.now) (g.W.Dialer.visits c.args.dialer.now)) c.args.all.now c.in_default.ensures.cases

pub returns-in_err-poll_if_up-clause-polls : goal.returns-in_err-poll_if_up-clause-polls
returns-in_err-poll_if_up-clause-polls g t c =
    let before = in_hand.outside (g.W.Dialer.dials c.args.dialer.now) (g.W.Dialer.visits c.args.dialer.now) in
    let after = in_hand.outside (g.W.Dialer.dials c.poll_if_up.new.dialer) (g.W.Dialer.visits c.poll_if_up.new.dialer) in
    subst (λ x. in_hand.PollsOver g.W.L.Link.left g.W.L.Link.taken g.W.L.Link.held before after x (c.poll_if_up.new.followed ∷ c.in-Some.rest.now) c.from_residual.result) (sym c.in-Some.ensures.cases.0)
    (polls_stop g.W.L.Link.left g.W.L.Link.taken g.W.L.Link.held before after c.in-Some.first.now c.poll_if_up.new.followed c.in-Some.rest.now c.from_residual.result c.from_residual.ensures.0
    c.in_err-poll_if_up.ensures.same c.in_err-poll_if_up.ensures.polls)

pub returns-clause-polls : goal.returns-clause-polls
returns-clause-polls g t c =
    let before = in_hand.outside (g.W.Dialer.dials c.args.dialer.now) (g.W.Dialer.visits c.args.dialer.now) in
    let mid = in_hand.outside (g.W.Dialer.dials c.poll_if_up.new.dialer) (g.W.Dialer.visits c.poll_if_up.new.dialer) in
    let after = in_hand.outside (g.W.Dialer.dials c.poll_over.new.dialer) (g.W.Dialer.visits c.poll_over.new.dialer) in
    subst (λ x. in_hand.PollsOver g.W.L.Link.left g.W.L.Link.taken g.W.L.Link.held before after x (c.poll_if_up.new.followed ∷ c.poll_over.new.all) c.poll_over.result) (sym c.in-Some.ensures.cases.0)
    (polls_more g.W.L.Link.left g.W.L.Link.taken g.W.L.Link.held before mid after c.in-Some.first.now c.poll_if_up.new.followed c.in-Some.rest.now c.poll_over.new.all c.poll_over.result c.in_ok-poll_if_up.field-0
    c.in_ok-poll_if_up.ensures.same c.in_ok-poll_if_up.ensures.polls c.poll_over.ensures.polls)
