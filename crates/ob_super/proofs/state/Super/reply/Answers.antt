use Rattle.std.proofs.Common.{sym, subst}
use Rattle.std.specs.Option.{option_copied}
use Rattle.ob_values.specs.declared.verb.Verb.{Verb}
use Rattle.ob_super.specs.InHand as in_hand
use Rattle.ob_super.proofs.AnswerLemmas.{replies_got, replies_post}
use Rattle.ob_super.proofs.state.Super.reply.Goals as goal

pub returns-in-Get-clause-replies : goal.returns-in-Get-clause-replies
returns-in-Get-clause-replies g c =
    let o = in_hand.outside (g.W.Dialer.dials c.args.dialer.now) (g.W.Dialer.visits c.args.dialer.now) in
    let all = c.args.self.now.followed.items in
    let path = c.args.path.now in
    let body = option_copied c.args.body in
    subst (λ (v : Verb). in_hand.RepliesAll g.L.Link.left g.L.Link.taken g.L.Link.held o o all all (in_hand.request v path body) (in_hand.replied_by c.got.result)) (sym c.in-Get.is)
    (replies_got g.L.Link.left g.L.Link.taken g.L.Link.held o all path body c.got.result c.got.ensures)

pub returns-in-Post-clause-replies : goal.returns-in-Post-clause-replies
returns-in-Post-clause-replies g c =
    let o = in_hand.outside (g.W.Dialer.dials c.args.dialer.now) (g.W.Dialer.visits c.args.dialer.now) in
    let all = c.args.self.now.followed.items in
    let path = c.args.path.now in
    let body = option_copied c.args.body in
    subst (λ (v : Verb). in_hand.RepliesAll g.L.Link.left g.L.Link.taken g.L.Link.held o o all all (in_hand.request v path body) (in_hand.replied_by c.refused.result)) (sym c.in-Post.is)
    (replies_post g.L.Link.left g.L.Link.taken g.L.Link.held o all path body c.refused.result c.refused.ensures)
