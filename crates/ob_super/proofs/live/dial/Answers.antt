use Rattle.std.proofs.Common.{ap, ◌∙◌}
use Rattle.ob_super.specs.InHand as in_hand
use Rattle.ob_super.proofs.RoundLemmas.{dials_noted}
use Rattle.ob_super.proofs.live.dial.Goals as goal

pub returns-clause-same : goal.returns-clause-same
returns-clause-same g c = ap (λ f. f.upstream) c.note_dial.ensures ∙ c.follow-answer.ensures.same

pub returns-clause-spent : goal.returns-clause-spent
returns-clause-spent g c = ap (λ f. f.waits) c.note_dial.ensures

pub returns-clause-dials : goal.returns-clause-dials
returns-clause-dials g c = λ old stands.
    dials_noted g.W.L.Link.left g.W.L.Link.taken g.W.L.Link.held (in_hand.outside (g.W.Dialer.dials c.args.dialer.now) (g.W.Dialer.visits c.args.dialer.now)) (in_hand.outside (g.W.Dialer.dials c.follow-answer.new.dialer) (g.W.Dialer.visits c.follow-answer.new.dialer))
    c.args.number (in_hand.upstream c.args.followed.now.upstream) old c.follow-answer.new.followed c.note_dial.new.followed c.follow-answer.result c.note_dial.ensures (c.follow-answer.ensures.follows old stands)
