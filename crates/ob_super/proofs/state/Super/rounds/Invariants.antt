use Rattle.std.proofs.Common.{◌≡◌, Ok}
use Rattle.ob_super.specs.InHand as in_hand
use Rattle.ob_super.proofs.state.Super.rounds.Given as goal

abbrev pub invariant-loop : goal.invariant-loop
invariant-loop g l =
    (in_hand.upstreams l.self.followed.items ≡ in_hand.upstreams l.initial.self.followed.items)
    × in_hand.ManyAll g.L.Link.left g.L.Link.taken g.L.Link.held (in_hand.outside (g.W.Dialer.dials l.initial.dialer) (g.W.Dialer.visits l.initial.dialer))
    (in_hand.outside (g.W.Dialer.dials l.dialer) (g.W.Dialer.visits l.dialer)) l.initial.self l.self l.counter (Ok tt)
