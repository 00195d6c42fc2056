use Rattle.std.proofs.Common.{ap, subst, ◌∙◌, arith}
use Rattle.ob_super.specs.InHand as in_hand
use Rattle.ob_super.proofs.NameLemmas.{apart_after, items_after}
use Rattle.ob_super.proofs.RoundLemmas.{rounds_all}
use Rattle.ob_super.proofs.state.Super.round.Goals as goal

pub invariant_of-self : goal.invariant_of-self
invariant_of-self g c = record {
  apart = apart_after c.args.self.now.followed c.round_over.new.all (omega (arith, c.args.self.now.followed.ok.0)) (c.round_over.ensures.same ∙ ap in_hand.upstreams c.deref_mut.ensures.value) c.args.self.now.apart;
}

pub returns-clause-rounds : goal.returns-clause-rounds
returns-clause-rounds g c =
    let before = in_hand.outside (g.W.Dialer.dials c.args.dialer.now) (g.W.Dialer.visits c.args.dialer.now) in
    let after = in_hand.outside (g.W.Dialer.dials c.round_over.new.dialer) (g.W.Dialer.visits c.round_over.new.dialer) in
    let number = c.saturating_add-self.result in
    rounds_all g.L.Link.left g.L.Link.taken g.L.Link.held before after c.args.self.now number _ c.round_over.new.all c.round_over.result c.saturating_add-self.ensures
    (items_after c.args.self.now.followed c.round_over.new.all (omega (arith, c.args.self.now.followed.ok.0)) (c.round_over.ensures.same ∙ ap in_hand.upstreams c.deref_mut.ensures.value))
    (subst (λ x. in_hand.RoundsOver g.L.Link.left g.L.Link.taken g.L.Link.held before after number x c.round_over.new.all c.round_over.result) c.deref_mut.ensures.value
    c.round_over.ensures.rounds)
