use Rattle.std.proofs.Common.{Ok, Option, subst}
use Rattle.std.specs.Option.{option_copied}
use Rattle.ob_object.specs.Object.{Object}
use Rattle.ob_super.specs.InHand as in_hand
use Rattle.ob_super.proofs.AnswerLemmas.{replies_unput}
use Rattle.ob_super.proofs.state.Super.put_reply.Goals as goal

pub returns-in-None-clause-replies : goal.returns-in-None-clause-replies
returns-in-None-clause-replies g c =
    let before = in_hand.outside (g.W.Dialer.dials c.args.dialer.now) (g.W.Dialer.visits c.args.dialer.now) in
    let after = in_hand.outside (g.W.Dialer.dials c.put.new.dialer) (g.W.Dialer.visits c.put.new.dialer) in
    let old = c.args.self.now.followed.items in
    let new = c.put.new.self.followed.items in
    let path = c.args.path.now in
    let body = option_copied c.args.body in
    replies_unput g.L.Link.left g.L.Link.taken g.L.Link.held before after old new path body c.refused.result c.in_ok-reply.ensures.same
    (subst (λ (r : Option Object). in_hand.PutsAll g.L.Link.left g.L.Link.taken g.L.Link.held before after old new path body (Ok r)) c.in-None.is c.in_ok-reply.ensures.puts) c.refused.ensures
