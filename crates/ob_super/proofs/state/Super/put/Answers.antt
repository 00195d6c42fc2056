use Rattle.std.proofs.Common.{ap, ◌∙◌, arith}
use Rattle.ob_super.specs.InHand as in_hand
use Rattle.ob_super.proofs.NameLemmas.{apart_after}
use Rattle.ob_super.proofs.state.Super.put.Goals as goal

pub invariant_of-self : goal.invariant_of-self
invariant_of-self g c = record {
  apart = apart_after c.args.self.now.followed c.put_over.new.all (omega (arith, c.args.self.now.followed.ok.0)) (c.put_over.ensures.same ∙ ap in_hand.upstreams c.deref_mut.ensures.value) c.args.self.now.apart;
}
