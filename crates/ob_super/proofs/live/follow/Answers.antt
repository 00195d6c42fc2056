use Rattle.std.proofs.Common.{sym, subst}
use Rattle.ob_super.specs.InHand as in_hand
use Rattle.ob_super.proofs.LiveLemmas.{follows_not}
use Rattle.ob_super.proofs.live.follow.Goals as goal

pub returns-in_err-live-clause-follows : goal.returns-in_err-live-clause-follows
returns-in_err-live-clause-follows g c = λ old stands.
    follows_not g.W.L.Link.left g.W.L.Link.taken g.W.L.Link.held (in_hand.upstream c.args.followed.now.upstream) _ _ old _ c.from_residual.result c.from_residual.ensures.0
    (c.in_err-live.ensures old (subst (λ x. in_hand.Stands g.W.L.Link.left g.W.L.Link.taken g.W.L.Link.held (in_hand.upstream c.args.followed.now.upstream) old x) (sym c.take-live.ensures.value) stands)) c.take-live.ensures.after
