use Rattle.std.proofs.Common.{ap, ◌∙◌, Err}
use Rattle.ob_http.proofs.ReplyLemmas.{never_reply}
use Rattle.ob_http.proofs.reply_head.is_refused_reply.Goals as goal

pub returns-in-Err : goal.returns-in-Err
returns-in-Err c =
    never_reply c.args.bytes.now c.in-Err.field-0 c.requires c.in-Err.ensures.invalid
    (λ same. c.parse_response.ensures.too_many (c.in-Err.is ∙ ap Err same))
