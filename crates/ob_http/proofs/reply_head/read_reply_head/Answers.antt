use Rattle.std.proofs.Common.{subst, ap, ◌∙◌, Ok, arith}
use Rattle.ob_http.specs.Reply.{IsReplyUndecided}
use Rattle.ob_http.proofs.RequestLemmas.{looked_at_is, of_complete}
use Rattle.ob_http.proofs.ReplyLemmas.{of_partial, knows_head, knows_refused}
use Rattle.ob_http.proofs.reply_head.read_reply_head.Goals as goal

pub undecided_reply-requires : goal.undecided_reply-requires
undecided_reply-requires c =
    subst IsReplyUndecided (looked_at_is c.args.bytes.now c.min.result c.min.ensures)
    (of_partial _ c.parse_response.result (c.in-Ok-Partial.is ∙ ap Ok c.in-Ok-Partial.field-0-is)
    c.parse_response.ensures.partial c.parse_response.ensures.unfinished)

pub undecided_reply-requires-else-is_refused_reply : goal.undecided_reply-requires-else-is_refused_reply
undecided_reply-requires-else-is_refused_reply c =
    subst IsReplyUndecided (looked_at_is c.args.bytes.now c.min.result c.min.ensures)
    (rw c.if-is_refused_reply.false at c.is_refused_reply.ensures)

pub returns-in-Ok-Complete : goal.returns-in-Ok-Complete
returns-in-Ok-Complete c =
    knows_head c.args.bytes.now _ _ _ _ (looked_at_is c.args.bytes.now c.min.result c.min.ensures) (omega (arith, c.parse_response.auto.headers))
    (of_complete c.parse_response.result c.in-Ok-Complete.head _ (c.in-Ok-Complete.is ∙ ap Ok c.in-Ok-Complete.field-0-is)
    c.parse_response.ensures.complete) c.place_reply.ensures

pub returns-then-is_refused_reply : goal.returns-then-is_refused_reply
returns-then-is_refused_reply c =
    knows_refused c.args.bytes.now _ (looked_at_is c.args.bytes.now c.min.result c.min.ensures) c.in-Err.ensures.no_room
    (rw c.if-is_refused_reply.true at c.is_refused_reply.ensures)
