use Rattle.std.proofs.Common.{subst}
use Rattle.ob_super.specs.InHand as in_hand
use Rattle.ob_super.proofs.LiveLemmas.{of_down, of_up}
use Rattle.ob_super.proofs.live.next.Goals as goal

pub returns-in-None : goal.returns-in-None
returns-in-None g c = λ old stands.
    of_down g.W.L.Link.left g.W.L.Link.taken g.W.L.Link.held (in_hand.upstream c.args.upstream.now) _ _ old _ (subst (λ x. in_hand.Stands g.W.L.Link.left g.W.L.Link.taken g.W.L.Link.held (in_hand.upstream c.args.upstream.now) old x) c.in-None.is stands) c.connect.ensures

pub returns-in-Some : goal.returns-in-Some
returns-in-Some g c = λ old stands.
    of_up g.W.L.Link.left g.W.L.Link.taken g.W.L.Link.held (in_hand.upstream c.args.upstream.now) _ _ c.in-Some.live old _ (subst (λ x. in_hand.Stands g.W.L.Link.left g.W.L.Link.taken g.W.L.Link.held (in_hand.upstream c.args.upstream.now) old x) c.in-Some.is stands) c.refresh.ensures
