use Rattle.std.proofs.Common.{subst, ◌∙◌, List, ℕ}
use Rattle.ob_http.specs.Reply.{ReplyStands}
use Rattle.ob_http.specs.Replies.{reply_front_of}
use Rattle.ob_http.proofs.RepliesLemmas.{sees_within}
use Rattle.ob_http.proofs.reply_framer.ReplyFramer.front.Goals as goal

pub returns-clause-stands : goal.returns-clause-stands
returns-clause-stands c =
    subst (λ (l : List ℕ). ReplyStands l (reply_front_of c.look_at_reply.result)) (c.as_slice.ensures ∙ c.self.view_is) c.look_at_reply.ensures

pub returns-clause-within : goal.returns-clause-within
returns-clause-within c =
    sees_within _ c.look_at_reply.result
    (subst (λ (l : List ℕ). ReplyStands l (reply_front_of c.look_at_reply.result)) (c.as_slice.ensures ∙ c.self.view_is) c.look_at_reply.ensures)
