use Rattle.std.proofs.Common.{arith, refl}
use Rattle.ob_http.proofs.ReplyLemmas.{no_body_yet, body_there}
use Rattle.ob_http.proofs.reply_head.whole_reply.Goals as goal

pub returns-then-len-bytes : goal.returns-then-len-bytes
returns-then-len-bytes c = no_body_yet c.args.bytes.now c.args.place.now c.requires (omega arith)

pub returns : goal.returns
returns c = body_there c.args.bytes.now _ c.args.place.now c.requires (omega arith) refl
