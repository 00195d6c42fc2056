use Rattle.std.proofs.Common.{◌∙◌, sym}
use Rattle.ob_http.proofs.ReplyLemmas.{knows_more}
use Rattle.ob_http.proofs.reply_head.read_reply_on.Goals as goal

pub returns-else-is_open_reply : goal.returns-else-is_open_reply
returns-else-is_open_reply c = λ front more same knows.
    knows_more c.args.bytes.now front more c.args.known (sym c.is_open_reply.ensures ∙ c.if-is_open_reply.false) same knows
